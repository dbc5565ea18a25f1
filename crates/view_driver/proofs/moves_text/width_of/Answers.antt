use Rattle.std.proofs.Common.{ap, length, arith}
use Rattle.view_driver.proofs.TextSteps.{next_width, no_width, width_least, some_move}
use Rattle.view_driver.proofs.moves_text.width_of.Goals as goal

pub loop-told-init : goal.loop-told-init
loop-told-init c = record {
  least = omega arith;
  same = omega (arith, width_least c.args.texts.now c.args.moves.now);
}

pub loop-told-preserved : goal.loop-told-preserved
loop-told-preserved c =
    let next = next_width c.args.texts.now c.args.moves.now c.loop-told.told-index some_move c.loop-told-test.true in
    let outcome = ap length c.text_at.ensures in
    record {
      least = omega (arith, c.max-width.ensures, c.loop-told.invariant.least);
      same = omega (arith, c.max-width.ensures, c.loop-told.invariant.same, next, outcome);
    }

pub returns : goal.returns
returns c = omega (arith, c.loop-told.invariant.least, c.loop-told.invariant.same, no_width c.args.texts.now c.args.moves.now c.loop-told.told-index c.loop-told-test.false)
