use Rattle.std.proofs.Common.{arith}
use Rattle.std.proofs.lemmas.Grind.{common_steps}
use Rattle.packet_headers.proofs.OptionWalk.{option_types-end, option_types-alone, option_types-long, option_types-unsound}
use Rattle.packet_headers.proofs.options.first_option.Goals as goal

pub returns-in-len2-up : goal.returns-in-len2-up
returns-in-len2-up c = grind (arith, common_steps, option_types-long)

pub returns-in-1 : goal.returns-in-1
returns-in-1 c = grind (arith, common_steps, option_types-alone)

pub returns-in-0 : goal.returns-in-0
returns-in-0 c = grind (arith, common_steps, option_types-end)

pub returns-in_default : goal.returns-in_default
returns-in_default c = grind (arith, common_steps, option_types-unsound)
