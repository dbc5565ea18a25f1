use Rattle.std.proofs.Common.{sym, subst, ◌∙◌}
use Rattle.fw_world.specs.Lane.{LaneValue}
use Rattle.fw_world.specs.RecordedHits.{TellsHits}
use Rattle.fw_world.specs.Legal.{IsLegal}
use Rattle.fw_world.specs.World.{IsLaneOf}
use Rattle.fw_world.proofs.Arranging.{stand-own}
use Rattle.serial_replay.proofs.Whole.{no-loose}
use Rattle.serial_replay.proofs.running.Running.close.Goals as goal

pub close-requires-clause-lanes : goal.close-requires-clause-lanes
close-requires-clause-lanes g c =
    let replay = c.args.self.replay in
    (replay.lanes.items, stand-own (λ (lane : LaneValue). lane.place) (IsLaneOf replay.world) 1 replay.lanes.items c.requires.sound.lanes)

pub returns : goal.returns
returns g c =
    let replay = c.args.self.replay in
    let lanes = replay.lanes.items in
    let are = stand-own (λ (lane : LaneValue). lane.place) (IsLaneOf replay.world) 1 lanes c.requires.sound.lanes in
    let exact = c.in_ok-record.ensures.exact lanes are in
    record {
      record_is = exact;
      legal = λ first commands inputs accepted stands.
          subst (IsLegal first commands inputs) (sym exact) (c.in_ok-record.ensures.legal lanes first commands inputs are accepted stands (no-loose lanes c.requires.sound.clean));
      hits = λ cache inputs rooms stands.
          subst (TellsHits cache inputs) (sym exact) (c.in_ok-record.ensures.hits lanes cache inputs are rooms stands);
      sources = c.in_ok-sources.ensures.sources;
      ends = c.from_vec.ensures ∙ c.in_ok-sources.ensures.ends;
      answers = c.from_vec-2.ensures;
    }
