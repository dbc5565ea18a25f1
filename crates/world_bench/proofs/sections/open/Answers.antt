use Rattle.world_bench.proofs.Idle.{all_idle}
use Rattle.world_bench.proofs.sections.open.Goals as goal

pub returns-clause-lanes : goal.returns-clause-lanes
returns-clause-lanes c = all_idle _ 1 _ c.in_ok-open.ensures.lanes
