use Rattle.cached_verdicts.proofs.First.{whole_evaluations_ask_nothing}
use Rattle.cached_verdicts.proofs.laws.whole_evaluations_ask_nothing.Goals as goal

pub returns : goal.returns
returns c = whole_evaluations_ask_nothing
