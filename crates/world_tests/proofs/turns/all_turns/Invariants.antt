use Rattle.std.proofs.Common.{◌≡◌, false}
use Rattle.world_tests.specs.Lanes.{IsLaneAt}
use Rattle.world_tests.proofs.turns.all_turns.Given as goal

abbrev pub invariant-loop-next : goal.invariant-loop-next
invariant-loop-next g l = IsLaneAt l.world l.fn.lane.place l.port l.inside.lane × (l.inside.judged ≡ false)
