use Rattle.std.proofs.Common.{◌∙◌}
use Rattle.live_replay.specs.Crew.{lanes_of}
use Rattle.live_replay.proofs.Gathered.{closing_lanes, closing_room, closing_loose}
use Rattle.live_replay.proofs.replay.close.Goals as goal

pub close-requires-clause-lanes : goal.close-requires-clause-lanes
close-requires-clause-lanes g c =
    let lanes = lanes_of c.args.relieved.finished.items in
    (lanes, closing_lanes c.args.world lanes c.in_ok-lanes.lanes.items c.in_ok-lanes.ensures.lanes c.requires.posted)

pub returns : goal.returns
returns g c =
    let lanes = lanes_of c.args.relieved.finished.items in
    let are = closing_lanes c.args.world lanes c.in_ok-lanes.lanes.items c.in_ok-lanes.ensures.lanes c.requires.posted in
    record {
      sources = c.in_ok-lanes.ensures.sources;
      ends = c.from_vec.ensures ∙ c.in_ok-lanes.ensures.ends;
      answers = c.from_vec-2.ensures;
      legal = λ first commands inputs desk stands.
          c.in_ok-record.ensures.legal lanes first commands inputs are desk stands
          (closing_loose c.args.world lanes c.in_ok-lanes.lanes.items c.in_ok-lanes.ensures.lanes c.requires.posted);
      hits = λ cache inputs room stands.
          c.in_ok-record.ensures.hits lanes cache inputs are (closing_room cache lanes c.in_ok-lanes.lanes.items c.in_ok-lanes.ensures.lanes room) stands;
    }
