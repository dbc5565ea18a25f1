use Rattle.std.proofs.Common.{subst}
use Rattle.fw_world.specs.LaneSteps.{LaneEnters}
use Rattle.shared_world.proofs.Sections.{skipped, skipped-kept}
use Rattle.shared_world.proofs.world.World.skip.Goals as goal
use Rattle.shared_world.proofs.world.World.skip.Goals.{After-work-2-1}
use Rattle.shared_world.specs.LaneCalls.{SkipsNext}
use Rattle.fw_world.specs.Skips.{entry_for}
use Rattle.shared_world.specs.SharedLane.{SharedLane, lane_of}

-- what entering the record did to the lane's work
enters : (c : After-work-2-1) → LaneEnters c.lane.inside.work c.enter-outcome.new.self (entry_for c.args.entry) c.enter-outcome.result
enters c = rw (c.deref_mut.ensures.value, c.skipped_entry.ensures) at c.enter-outcome.ensures

pub invariant_of-result : goal.invariant_of-result
invariant_of-result c = skipped-kept c.lane.inside.processor.view c.lane.inside.work c.enter-outcome.new.self c.args.entry c.enter-outcome.result (enters c) c.lane.invariant

pub returns-clause-entered : goal.returns-clause-entered
returns-clause-entered c =
    subst (λ (l : SharedLane). SkipsNext l (lane_of c.lane.inside.processor.table_id c.lane.inside.processor.view c.enter-outcome.new.self) c.args.entry c.enter-outcome.result) c.lane.view_is
    (skipped c.lane.inside.processor.table_id c.lane.inside.processor.view c.lane.inside.work c.enter-outcome.new.self c.args.entry c.enter-outcome.result (enters c))
