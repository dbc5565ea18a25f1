use Rattle.world_tests.proofs.Callers.{both_lanes}
use Rattle.world_tests.proofs.pair.open_pair.Goals as goal

pub returns-clause-first : goal.returns-clause-first
returns-clause-first g c =
    (both_lanes _ c.args.cache c.args.port.now c.in_ok-world.field-0.lanes.items c.pop.new.self.items c.pop-2.new.self.items c.in-Some-Some.first c.in-Some-Some.second
    c.in_ok-world.ensures.lanes c.in_ok-world.ensures.count c.in-Some-Some.ensures.items c.in-Some-Some.ensures'.items).0

pub returns-clause-second : goal.returns-clause-second
returns-clause-second g c =
    (both_lanes _ c.args.cache c.args.port.now c.in_ok-world.field-0.lanes.items c.pop.new.self.items c.pop-2.new.self.items c.in-Some-Some.first c.in-Some-Some.second
    c.in_ok-world.ensures.lanes c.in_ok-world.ensures.count c.in-Some-Some.ensures.items c.in-Some-Some.ensures'.items).1
