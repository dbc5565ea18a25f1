use Rattle.std.proofs.Common.{◌≡◌, ◌<◌, Some, length, drop, refl, sym, ap, ◌∙◌, arith}
use Rattle.std.proofs.lemmas.List.{take_rest}
use Rattle.report_reading.proofs.WordSteps.{at_end, fails, stands, too_short}
use Rattle.report_reading.proofs.parts.behind.Goals as goal

pub returns-then-text-word : goal.returns-then-text-word
returns-then-text-word c = sym (too_short c.args.word.now c.args.text.now c.if-text-word.true)

pub returns-then-text-at : goal.returns-then-text-at
returns-then-text-at c =
    let inside : c.loop-at.at < length c.args.text.now = omega arith in
    sym (fails c.args.word.now c.args.text.now c.loop-at.at _ _ c.loop-at-test.true refl inside refl c.if-text-at.true) ∙ c.loop-at.invariant

pub loop-at-preserved : goal.loop-at-preserved
loop-at-preserved c =
    let inside : c.loop-at.at < length c.args.text.now = omega arith in
    stands c.args.word.now c.args.text.now c.loop-at.at _ _ c.loop-at-test.true refl inside refl c.if-text-at.false ∙ c.loop-at.invariant

pub returns : goal.returns
returns c =
    let end : c.loop-at.at ≡ length c.args.word.now = omega arith in
    rw (take_rest c.args.text.now (length c.args.word.now))
    (ap (λ n. Some (drop n c.args.text.now)) (sym end) ∙ sym (at_end c.args.word.now c.args.text.now c.loop-at.at c.loop-at-test.false) ∙ c.loop-at.invariant)
