use Rattle.std.proofs.Common.{rules}
use Rattle.world_tests.proofs.Callers.{one_each}
use Rattle.world_tests.proofs.one_lane.close_single.Goals as goal

pub close-requires-clause-lanes : goal.close-requires-clause-lanes
close-requires-clause-lanes c = one_each c.args.world c.args.port.now c.args.lane c.push_reserved.new.self.items (search rules) c.requires.lane
