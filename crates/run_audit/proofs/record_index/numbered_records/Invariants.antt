use Rattle.std.proofs.Common.{◌≡◌, ◌++◌, drop}
use Rattle.run_audit.specs.Indexes.{record_number}
use Rattle.run_audit.specs.Numbering.{numbered_from}
use Rattle.run_audit.proofs.record_index.numbered_records.Given as goal

abbrev pub invariant-loop-place : goal.invariant-loop-place
invariant-loop-place l = l.numbered.items ++ numbered_from record_number l.place (drop l.place l.records) ≡ numbered_from record_number 0 l.records
