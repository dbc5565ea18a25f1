use Rattle.std.proofs.Common.{◌≡◌}
use Rattle.world_tests.specs.Lanes.{IsLaneAt}
use Rattle.world_tests.proofs.memory.small_run.Given as goal

abbrev pub invariant-loop-line : goal.invariant-loop-line
invariant-loop-line g l = IsLaneAt l.world 1 l.port l.callers.first × IsLaneAt l.world 2 l.port l.callers.second × (l.callers.desk.world ≡ l.world) × (l.callers.desk.lanes ≡ l.fn.callers.desk.lanes)
