use Rattle.fw_command.proofs.Pieces.{lines_go_by_bytes}
use Rattle.fw_command.proofs.laws.lines_go_by_bytes.Goals as goal

pub returns : goal.returns
returns c = lines_go_by_bytes
