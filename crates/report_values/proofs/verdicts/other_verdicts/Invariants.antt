-- The records so far that came to another verdict.
use Rattle.std.proofs.Common.{◌≡◌, ◌≤◌, take, not}
use Rattle.std.specs.Prelude.{count_by, zip}
use Rattle.report_values.specs.Verdicts.{is_one_verdict}
use Rattle.report_values.proofs.verdicts.other_verdicts.Given as goal

abbrev pub invariant-loop-place : goal.invariant-loop-place
invariant-loop-place l =
    (l.others ≡ count_by (λ told. not (is_one_verdict told.0 told.1)) (take l.place (zip l.old l.new))) × l.others ≤ l.place
