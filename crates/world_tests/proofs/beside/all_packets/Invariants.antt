use Rattle.world_tests.specs.Lanes.{IsLaneAt}
use Rattle.world_tests.proofs.beside.all_packets.Given as goal

abbrev pub invariant-loop : goal.invariant-loop
invariant-loop g l = IsLaneAt l.world l.fn.lane.place l.port l.worker.lane
