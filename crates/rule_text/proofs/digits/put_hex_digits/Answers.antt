use Rattle.std.proofs.Common.{arith}
use Rattle.rule_text.proofs.HexSteps.{hex_starts, hex_goes, hex_ends}
use Rattle.rule_text.proofs.digits.put_hex_digits.Goals as goal

pub loop-rest-init : goal.loop-rest-init
loop-rest-init c = hex_starts _ _ (omega arith) c.told-buffer

pub loop-rest-preserved : goal.loop-rest-preserved
loop-rest-preserved c = hex_goes _ _ _ _ _ c.loop-rest-test.true c.hex_digit.ensures c.loop-rest.invariant

pub returns-clause-digits : goal.returns-clause-digits
returns-clause-digits c = hex_ends _ _ _ _ _ c.loop-rest-test.false c.hex_digit-2.ensures c.loop-rest.invariant
