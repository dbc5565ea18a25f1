use Rattle.evaluation_laws.proofs.Answered.{has_one_outcome}
use Rattle.evaluation_laws.proofs.laws.evaluations_have_one_outcome.Goals as goal

pub returns : goal.returns
returns c = has_one_outcome
