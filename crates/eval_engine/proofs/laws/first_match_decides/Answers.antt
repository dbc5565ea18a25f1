use Rattle.eval_engine.proofs.Plain.{first_match_decides}
use Rattle.eval_engine.proofs.laws.first_match_decides.Goals as goal

pub returns : goal.returns
returns c = first_match_decides
