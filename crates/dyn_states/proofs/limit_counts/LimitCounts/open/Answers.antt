use Rattle.std.proofs.Common.{arith}
use Rattle.std.proofs.lemmas.Grind.{common_steps}
use Rattle.dyn_states.specs.LimitCounts.{amount_of}
use Rattle.dyn_states.proofs.limit_counts.LimitCounts.open.Goals as goal

pub returns-clause-amounts : goal.returns-clause-amounts
unfolding amount_of
returns-clause-amounts c = λ q. grind (arith, common_steps)
