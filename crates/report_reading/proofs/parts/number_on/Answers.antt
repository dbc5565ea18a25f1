use Rattle.std.proofs.Common.{◌+◌, drop, refl, sym, ap, ◌∙◌, arith}
use Rattle.std.proofs.lemmas.Bool.{leb-true}
use Rattle.std.proofs.lemmas.List.{take_rest}
use Rattle.report_reading.specs.Parts.{number_on}
use Rattle.report_reading.proofs.DigitSteps.{goes, breaks, stops, ends, none_so, some_so}
use Rattle.report_reading.proofs.parts.number_on.Goals as goal

pub returns-then-not-is_ascii_digit-clause-value : goal.returns-then-not-is_ascii_digit-clause-value
returns-then-not-is_ascii_digit-clause-value c =
    rw (take_rest c.args.text.now c.loop-at.at)
    (sym (stops c.args.most c.loop-at.value c.args.text.now c.loop-at.at _ c.loop-at-test.true refl (sym c.is_ascii_digit.ensures.value ∙ c.if-not-is_ascii_digit.true))
    ∙ c.loop-at.invariant.same)

pub returns-in-None-clause-value : goal.returns-in-None-clause-value
returns-in-None-clause-value c =
    sym (breaks c.args.most c.loop-at.value c.args.text.now c.loop-at.at _ c.loop-at-test.true refl (sym c.is_ascii_digit.ensures.value ∙ c.if-not-is_ascii_digit.false)
    (none_so _ _ c.in-None.ensures))
    ∙ c.loop-at.invariant.same

pub loop-at-preserved : goal.loop-at-preserved
loop-at-preserved c =
    let (low, is) = some_so _ c.in-Some.more _ c.in-Some.ensures in
    record {
      same = ap (λ m. number_on c.args.most m (drop (c.loop-at.at + 1) c.args.text.now)) is
          ∙ sym (goes c.args.most c.loop-at.value c.args.text.now c.loop-at.at _ c.loop-at-test.true refl (sym c.is_ascii_digit.ensures.value ∙ c.if-not-is_ascii_digit.false) low)
          ∙ c.loop-at.invariant.same;
      low = omega (arith, is, leb-true _ _ low);
    }

pub returns-clause-value : goal.returns-clause-value
returns-clause-value c =
    sym (ends c.args.most c.loop-at.value c.args.text.now c.loop-at.at c.loop-at-test.false) ∙ c.loop-at.invariant.same
