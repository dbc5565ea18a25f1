use Rattle.world_tests.specs.Lanes.{IsLaneAt}
use Rattle.world_tests.proofs.memory.judge_all.Given as goal

abbrev pub invariant-loop : goal.invariant-loop
invariant-loop g l = IsLaneAt l.world 1 l.port l.first × IsLaneAt l.world 2 l.port l.second
