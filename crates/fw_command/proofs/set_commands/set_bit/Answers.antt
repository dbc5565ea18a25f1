use Rattle.std.proofs.Common.{◌≤◌, arith, refl}
use Rattle.ipfw_parser.proofs.Forms.Following.{of_ok}
use Rattle.ipfw_parser.proofs.Steps.Masks.{bit_fits}
use Rattle.ipfw_parser.proofs.Forms.Numbers.{set_on}
use Rattle.fw_command.specs.SetCommands.{set_bit}
use Rattle.fw_command.proofs.set_commands.set_bit.Goals as goal

pub overflow_shl-result : goal.overflow_shl-result
overflow_shl-result c = omega (arith, of_ok _ (λ n. n ≤ 31) c.in_ok-set.set (set_on _) c.in_ok-set.ensures.value)

pub returns : goal.returns
unfolding set_bit
returns c = rw (c.in_ok-set.ensures.value, bit_fits c.in_ok-set.set (of_ok _ (λ n. n ≤ 31) c.in_ok-set.set (set_on _) c.in_ok-set.ensures.value)) refl
