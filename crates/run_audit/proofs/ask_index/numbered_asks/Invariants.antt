use Rattle.std.proofs.Common.{◌≡◌, ◌++◌, drop}
use Rattle.run_audit.specs.Indexes.{stand_number}
use Rattle.run_audit.specs.Numbering.{numbered_from}
use Rattle.run_audit.proofs.ask_index.numbered_asks.Given as goal

abbrev pub invariant-loop-place : goal.invariant-loop-place
invariant-loop-place l = l.numbered.items ++ numbered_from stand_number l.place (drop l.place l.stands) ≡ numbered_from stand_number 0 l.stands
