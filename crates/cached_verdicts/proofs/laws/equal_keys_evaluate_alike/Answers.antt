use Rattle.cached_verdicts.proofs.Alike.{equal_keys_evaluate_alike}
use Rattle.cached_verdicts.proofs.laws.equal_keys_evaluate_alike.Goals as goal

pub returns : goal.returns
returns c = equal_keys_evaluate_alike
