use Rattle.ipfw_parser.proofs.Turns.{read_in_turn}
use Rattle.ipfw_parser.proofs.laws.options_are_read_in_turn.Goals as goal

pub returns : goal.returns
returns c = read_in_turn
