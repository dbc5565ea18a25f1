use Rattle.cached_verdicts.proofs.Once.{cacheable_editions_hit_once}
use Rattle.cached_verdicts.proofs.laws.cacheable_editions_hit_once.Goals as goal

pub returns : goal.returns
returns c = cacheable_editions_hit_once
