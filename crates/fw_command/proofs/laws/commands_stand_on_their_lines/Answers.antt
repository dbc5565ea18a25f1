use Rattle.fw_command.proofs.Standing.{commands_stand}
use Rattle.fw_command.proofs.laws.commands_stand_on_their_lines.Goals as goal

pub returns : goal.returns
returns c = commands_stand
