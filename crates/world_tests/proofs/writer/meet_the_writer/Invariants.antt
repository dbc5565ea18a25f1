use Rattle.world_tests.specs.Lanes.{IsLaneAt}
use Rattle.world_tests.proofs.writer.meet_the_writer.Given as goal

abbrev pub invariant-loop : goal.invariant-loop
invariant-loop g l = IsLaneAt l.world l.fn.worker.lane.place l.port l.worker.lane
