use Rattle.std.proofs.Common.{None}
use Rattle.world_tests.proofs.Callers.{only_lane}
use Rattle.world_tests.proofs.one_lane.open_single.Goals as goal

pub returns-clause-lane : goal.returns-clause-lane
returns-clause-lane g c = only_lane _ None c.args.port.now c.in_ok-world.field-0.lanes.items c.pop.new.self.items c.in-Some.lane c.in_ok-world.ensures.lanes c.in_ok-world.ensures.count c.in-Some.ensures.items
