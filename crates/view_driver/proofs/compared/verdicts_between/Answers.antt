use Rattle.std.proofs.Common.{ℕ, ◌+◌, ◌-◌, ◌<◌, ◌≤◌, ◌^◌, length, take, min, ap, sym, ◌∙◌, arith}
use Rattle.std.specs.Prelude.{sum_by, zip}
use Rattle.std.proofs.lemmas.List.{take_all}
use Rattle.report_values.specs.Verdicts.{other_verdicts}
use Rattle.report_values.specs.declared.capture.Capture.{Capture}
use Rattle.report_values.proofs.PlacePairs.{pair_count, pairs_more}
use Rattle.report_page.proofs.ShareLaws.{capped_more}
use Rattle.view_driver.proofs.compared.verdicts_between.Goals as goal

-- the records of two captures that came to another verdict
abbrev others : Capture × Capture → ℕ
others told = other_verdicts told.0.records told.1.records

pub loop-place-preserved : goal.loop-place-preserved
loop-place-preserved c =
    let old = c.args.old.now in
    let new = c.args.new.now in
    let place = c.loop-place.place in
    let was = c.index-old-place.result in
    let is = c.index-new-place.result in
    let within : place < min (length old) (length new) = omega (arith, c.loop-place-test.true, c.min-place-end.ensures) in
    let more = pairs_more others old new place was is (omega (arith, within)) (omega (arith, within)) in
    let told = c.other_verdicts-others.ensures in
    let so_far = sum_by others (take place (zip old new)) in
    c.saturating_add-records.ensures
    ∙ ap (λ n. min (n + c.other_verdicts-others.result) (2 ^ 64 - 1)) c.loop-place.invariant
    ∙ capped_more (2 ^ 64 - 1) so_far c.other_verdicts-others.result
    ∙ ap (λ n. min n (2 ^ 64 - 1)) (ap (λ n. so_far + n) told ∙ sym more)

pub returns : goal.returns
returns c =
    let old = c.args.old.now in
    let new = c.args.new.now in
    let past : min (length old) (length new) ≤ c.loop-place.place = omega (arith, c.loop-place-test.false, c.min-place-end.ensures) in
    c.loop-place.invariant
    ∙ ap (λ pairs. min (sum_by others pairs) (2 ^ 64 - 1)) (take_all c.loop-place.place (zip old new) (omega (arith, past, pair_count old new)))
