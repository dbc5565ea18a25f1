use Rattle.verdict_cache.proofs.HoldsByKey.{equal_keys_hold_alike}
use Rattle.verdict_cache.proofs.laws.equal_keys_hold_alike.Goals as goal

pub returns : goal.returns
returns c = equal_keys_hold_alike
