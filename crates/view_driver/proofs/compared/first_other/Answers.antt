use Rattle.std.proofs.Common.{◌≢◌, ◌<◌, ◌≤◌, ◌∙◌, [], ap, arith, length, min, refl, sym}
use Rattle.std.proofs.lemmas.List.{get_or_read_under}
use Rattle.view_driver.proofs.Unlike.{are_alike, other_at}
use Rattle.view_driver.proofs.compared.first_other.Goals as goal

pub returns-then-as_slice : goal.returns-then-as_slice
returns-then-as_slice c =
    let old = c.args.old.now in
    let new = c.args.new.now in
    let place = c.loop-place.place in
    let within : place < min (length old) (length new) = omega (arith, c.loop-place-test.true, c.min-place-end.ensures) in
    let old_is = c.as_slice.ensures ∙ get_or_read_under old place (length old) c.index-old-place.result [] c.index-old-place.is (omega (arith, within)) refl in
    let new_is = c.as_slice-in-loop-place.ensures
    ∙ get_or_read_under new place (length new) c.index-new-place.result [] c.index-new-place.is (omega (arith, within)) refl
    in
    let apart : length c.as_slice.result.now ≢ length c.as_slice-in-loop-place.result.now = c.if-as_slice.true in
    other_at old new place c.loop-place.invariant within (λ same. apart (ap length old_is ∙ same ∙ sym (ap length new_is)))

pub returns : goal.returns
returns c =
    let old = c.args.old.now in
    let new = c.args.new.now in
    let within : min (length old) (length new) ≤ c.loop-place.place = omega (arith, c.loop-place-test.false, c.min-place-end.ensures) in
    are_alike old new (min (length old) (length new)) (λ k below. c.loop-place.invariant k (omega (arith, below, within))) (omega arith)
