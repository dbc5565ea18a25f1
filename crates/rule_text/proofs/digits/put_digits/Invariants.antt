use Rattle.rule_text.proofs.DigitSteps.{IsWriting}
use Rattle.rule_text.proofs.digits.put_digits.Given as goal

abbrev pub invariant-loop-rest : goal.invariant-loop-rest
invariant-loop-rest l = IsWriting l.fn.n l.rest l.at l.buffer

abbrev pub decreases-loop-rest : goal.decreases-loop-rest
decreases-loop-rest l = l.rest
