use Rattle.evaluation_laws.proofs.Answered.{replies_are_asked}
use Rattle.evaluation_laws.proofs.laws.replies_are_asked.Goals as goal

pub returns : goal.returns
returns c = replies_are_asked
