use Rattle.std.proofs.Common.{arith}
use Rattle.rule_text.proofs.DigitSteps.{starts, digit_goes, last_goes, has_room}
use Rattle.rule_text.proofs.digits.put_digits.Goals as goal

pub loop-rest-init : goal.loop-rest-init
loop-rest-init c = starts _ _ (omega arith) c.told-buffer

pub overflow_sub-at : goal.overflow_sub-at
overflow_sub-at c = omega (arith, has_room _ _ _ _ c.loop-rest.invariant)

pub loop-rest-preserved : goal.loop-rest-preserved
loop-rest-preserved c = digit_goes _ _ _ _ c.loop-rest-test.true c.loop-rest.invariant

pub overflow_sub-at-2 : goal.overflow_sub-at-2
overflow_sub-at-2 c = omega (arith, has_room _ _ _ _ c.loop-rest.invariant)

pub returns-clause-digits : goal.returns-clause-digits
returns-clause-digits c = last_goes _ _ _ _ c.loop-rest-test.false c.loop-rest.invariant
