use Rattle.std.proofs.Common.{◌<◌, ◌≤◌, not, length, min, ap, sym, ◌∙◌, arith}
use Rattle.std.specs.Prelude.{count_by, zip}
use Rattle.std.proofs.lemmas.List.{take_all}
use Rattle.eval_engine.specs.declared.docket_entry.DocketEntry.TheVariants.{Other}
use Rattle.report_values.specs.Verdicts.{is_one_verdict}
use Rattle.report_values.proofs.PlacePairs.{counted_more, pair_count}
use Rattle.report_values.proofs.verdicts.other_verdicts.Goals.{then-not-is_one_verdict, else-not-is_one_verdict}
use Rattle.report_values.proofs.verdicts.other_verdicts.Goals as goal

pub loop-place-preserved : goal.loop-place-preserved
loop-place-preserved c =
    let old = c.args.old.now in
    let new = c.args.new.now in
    let place = c.loop-place.place in
    let within : place < min (length old) (length new) = omega (arith, c.loop-place-test.true, c.min-place-end.ensures, c.len.ensures, c.len-2.ensures) in
    let told = rw (c.entry.ensures, c.entry-in-loop-place.ensures) at c.is_one_verdict.ensures in
    let more =
    counted_more (λ told. not (is_one_verdict told.0 told.1)) old new place Other Other (not c.is_one_verdict.result)
    (omega (arith, within)) (omega (arith, within)) (ap not (sym told))
    in
    elim c.if-not-is_one_verdict.branch [
      | then-not-is_one_verdict w ↦
          let one = rw w.if-not-is_one_verdict.true at more in
          (omega (arith, w.others-is, c.loop-place.invariant.0, one), omega (arith, w.others-is, c.loop-place.invariant.1))
      | else-not-is_one_verdict w ↦
          let none = rw w.if-not-is_one_verdict.false at more in
          (omega (arith, w.others-is, c.loop-place.invariant.0, none), omega (arith, w.others-is, c.loop-place.invariant.1))
    ]

pub returns : goal.returns
returns c =
    let old = c.args.old.now in
    let new = c.args.new.now in
    let past : min (length old) (length new) ≤ c.loop-place.place = omega (arith, c.loop-place-test.false, c.min-place-end.ensures, c.len.ensures, c.len-2.ensures) in
    c.loop-place.invariant.0
    ∙ ap (count_by (λ told. not (is_one_verdict told.0 told.1))) (take_all c.loop-place.place (zip old new) (omega (arith, past, pair_count old new)))
