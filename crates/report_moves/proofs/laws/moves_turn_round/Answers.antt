use Rattle.report_moves.proofs.SpanLaws.{turns_round}
use Rattle.report_moves.proofs.laws.moves_turn_round.Goals as goal

pub returns : goal.returns
returns c = turns_round
