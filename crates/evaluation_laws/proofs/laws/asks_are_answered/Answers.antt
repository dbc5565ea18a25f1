use Rattle.evaluation_laws.proofs.Answered.{asks_are_answered}
use Rattle.evaluation_laws.proofs.laws.asks_are_answered.Goals as goal

pub returns : goal.returns
returns c = asks_are_answered
