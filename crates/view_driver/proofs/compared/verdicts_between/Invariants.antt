-- The records of the captures so far.
use Rattle.std.proofs.Common.{◌≡◌, ◌-◌, ◌^◌, min, take}
use Rattle.std.specs.Prelude.{sum_by, zip}
use Rattle.report_values.specs.Verdicts.{other_verdicts}
use Rattle.view_driver.proofs.compared.verdicts_between.Given as goal

abbrev pub invariant-loop-place : goal.invariant-loop-place
invariant-loop-place l =
    l.records ≡ min (sum_by (λ told. other_verdicts told.0.records told.1.records) (take l.place (zip l.old l.new))) (2 ^ 64 - 1)
