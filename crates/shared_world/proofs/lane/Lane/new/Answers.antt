use Rattle.std.proofs.Common.{◌∙◌, Option, [], false, ap, subst, sym}
use Rattle.cached_verdicts.specs.LaneCache.{LaneCacheValue}
use Rattle.fw_world.specs.declared.lane_work.LaneWork.{LaneWork}
use Rattle.shared_world.proofs.Standing.{new-is, stands-new}
use Rattle.shared_world.proofs.lane.Lane.new.Goals as goal
use Rattle.shared_world.specs.SharedLane.{SharedLane}
use Rattle.shared_world.specs.Standing.{LaneStandsFor}

pub returns-clause-stands : goal.returns-clause-stands
returns-clause-stands c =
    let work = c.in_ok-work.ensures ∙ c.new.ensures ∙ ap (λ (own : Option LaneCacheValue). let w : LaneWork = record { docket = record { entries = []; refused = 0 }; tally = []; cache = own; failed = false; loose = 0 } in w) c.in_ok-cache.ensures in
    subst (λ (lane : SharedLane). LaneStandsFor lane []) (sym (new-is c.args.processor.table_id c.args.cache c.args.processor.view c.in_ok-work.work c.requires.seat work)) (stands-new c.args.processor.table_id c.args.cache c.args.processor.view.place)
