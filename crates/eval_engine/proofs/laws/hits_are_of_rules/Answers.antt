use Rattle.eval_engine.proofs.Hits.{hits_are_of_rules}
use Rattle.eval_engine.proofs.laws.hits_are_of_rules.Goals as goal

pub returns : goal.returns
returns c = hits_are_of_rules
