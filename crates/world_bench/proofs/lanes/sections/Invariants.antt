use Rattle.std.proofs.Common.{◌≡◌}
use Rattle.fw_world.specs.Caches.{IsPortFor}
use Rattle.world_bench.proofs.lanes.sections.Given as goal

abbrev pub invariant-loop-index : goal.invariant-loop-index
invariant-loop-index g l = (l.lane.world ≡ l.world) × IsPortFor l.lane.cache l.port
