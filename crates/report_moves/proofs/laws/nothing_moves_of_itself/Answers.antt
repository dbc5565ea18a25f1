use Rattle.report_moves.proofs.SpanLaws.{nothing_moves}
use Rattle.report_moves.proofs.laws.nothing_moves_of_itself.Goals as goal

pub returns : goal.returns
returns c = nothing_moves
