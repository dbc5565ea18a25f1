use Rattle.evaluation_laws.proofs.Answered.{opens_before_it_ends}
use Rattle.evaluation_laws.proofs.laws.evaluations_open_before_they_end.Goals as goal

pub returns : goal.returns
returns c = opens_before_it_ends
