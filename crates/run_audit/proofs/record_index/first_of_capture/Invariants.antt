use Rattle.std.proofs.Common.{◌≡◌, drop}
use Rattle.std.specs.List.{find}
use Rattle.run_audit.specs.Indexes.{is_of_capture}
use Rattle.run_audit.specs.Numbering.{picked}
use Rattle.run_audit.proofs.record_index.first_of_capture.Given as goal

abbrev pub invariant-loop-one : goal.invariant-loop-one
invariant-loop-one l = find (is_of_capture l.capture) (picked l.records (drop l.one-index l.places)) ≡ find (is_of_capture l.capture) (picked l.records l.places)
