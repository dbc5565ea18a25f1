use Rattle.verdict_cache.proofs.SameKey.{same_key-equal, same_key-itself}
use Rattle.verdict_cache.proofs.laws.same_keys_are_equal.Goals as goal

pub returns-clause-equal : goal.returns-clause-equal
returns-clause-equal c = same_key-equal

pub returns-clause-itself : goal.returns-clause-itself
returns-clause-itself c = same_key-itself
