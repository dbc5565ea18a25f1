use Rattle.cached_verdicts.proofs.Truth.{other_editions_keep_nothing}
use Rattle.cached_verdicts.proofs.laws.other_editions_keep_nothing.Goals as goal

pub returns : goal.returns
returns c = other_editions_keep_nothing
