use Rattle.verdict_cache.proofs.FlowByKey.{equal_keys_have_one_flow}
use Rattle.verdict_cache.proofs.laws.equal_keys_have_one_flow.Goals as goal

pub returns : goal.returns
returns c = equal_keys_have_one_flow
