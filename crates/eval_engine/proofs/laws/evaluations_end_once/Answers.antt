use Rattle.eval_engine.proofs.Ending.{ends_once}
use Rattle.eval_engine.proofs.laws.evaluations_end_once.Goals as goal

pub returns : goal.returns
returns c = ends_once
