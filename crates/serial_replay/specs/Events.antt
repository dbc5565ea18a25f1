-- What each event of a run leaves: a record that is judged by its lane, or a command.
use Rattle.std.specs.Prelude.{◌≡◌, ℕ, ◌+◌, Option, Some, None, ◌⊎◌, List, [], ◌∷◌, length, slice_get, slice_set}
use Rattle.fw_base.specs.declared.port.Port.{Port}
use Rattle.counter_book.specs.declared.tally.Count.{Count}
use Rattle.cached_verdicts.specs.LaneCache.{LaneCacheValue}
use Rattle.eval_engine.specs.Dockets.{judged_entry}
use Rattle.eval_engine.specs.declared.docket_entry.DocketEntry.{DocketEntry}
use Rattle.eval_engine.specs.declared.docket_entry.DocketEntry.TheVariants as entry
use Rattle.eval_engine.specs.declared.judgement.Judgement.{Judgement}
use Rattle.fw_rule.specs.declared.command.Command.{Command}
use Rattle.fw_world.specs.CommitFaults.{RefusesCommand}
use Rattle.fw_world.specs.Inputs.{Input, Other, Malformed, Packet}
use Rattle.fw_world.specs.Lane.{LaneValue, with_docket_entry}
use Rattle.serial_world.specs.SerialLane.{lane_after_admission}
use Rattle.serial_world.specs.Steps.{Judges, Publishes}
use Rattle.fw_world.specs.World.{WorldValue, published_count}
use Rattle.ip6_headers.specs.declared.any_ip.AnyIp.{AnyIp}
use Rattle.rule_edits.specs.declared.apply_fault.ApplyFault.{ApplyFault}
use Rattle.capture_tracks.specs.Commands.{Listing, listing_of}
use Rattle.capture_tracks.specs.Reading.{Origin, input_of}
use Rattle.serial_schedule.specs.Order.{Turn}
use Rattle.serial_schedule.specs.Schedule.{Event, Ran, Taken}

-- the world and its lanes, in the order of their places
pub record RunState : Type 0 where
  pub world : WorldValue
  pub lanes : List LaneValue

-- The lane after a packet that was judged under the edition of this number, which leaves this tally and this
-- cache. It is refused once, and regains, exactly where it held another edition.
abbrev pub judged_lane : ℕ → Judgement → List Count → Option LaneCacheValue → LaneValue → LaneValue
judged_lane number judgement tally cache lane = record (with_docket_entry (judged_entry judgement) (lane_after_admission number lane)) { tally = tally; cache = cache }

-- the lane at this place, from 0, became this one, and the others stay
abbrev pub ChangesLane : ℕ → List LaneValue → List LaneValue → LaneValue → LaneValue → Type 0
ChangesLane place old new lane laneAfter = (slice_get old place ≡ Some lane) × (new ≡ slice_set old place laneAfter)

-- a packet, which was captured there at that second, was judged by the lane at this place
pub record JudgesAt (place : ℕ) (old new : RunState) (packet : AnyIp) (port : Port) (second : ℕ) : Type 0 where
  pub lane : LaneValue
  pub tally : List Count
  pub cache : Option LaneCacheValue
  pub judgement : Judgement
  pub judges : Judges old.world new.world lane.place (length lane.docket.entries + 1) packet port second lane.tally tally judgement
  pub changes : ChangesLane place old.lanes new.lanes lane (judged_lane (published_count old.world) judgement tally cache lane)

-- an entry was made for a record that isn't judged
pub record EntersAt (place : ℕ) (old new : RunState) (entered : DocketEntry) : Type 0 where
  pub lane : LaneValue
  pub world : new.world ≡ old.world
  pub changes : ChangesLane place old.lanes new.lanes lane (with_docket_entry entered lane)

-- a record of the lane at this place was replayed
abbrev pub ReplaysInput : ℕ → RunState → RunState → Input → Type 0
ReplaysInput place old new Other = EntersAt place old new entry.Other
ReplaysInput place old new (Malformed kind) = EntersAt place old new (entry.Malformed kind)
ReplaysInput place old new (Packet packet port second) = JudgesAt place old new packet port second

-- the last edition's configuration refuses the command
abbrev pub HasRefusalOf : WorldValue → Command → Type 0
HasRefusalOf world command = (fault : ApplyFault) × RefusesCommand world.editions command fault

-- a command was published, or refused, which changes nothing
abbrev pub RunsCommand : RunState → RunState → Command → Type 0
RunsCommand old new command =
    ((new.lanes ≡ old.lanes) × Publishes old.world new.world command)
    ⊎ (HasRefusalOf old.world command × (new ≡ old))

-- a listing changes nothing
abbrev pub RunsLine : RunState → RunState → Command → Option Listing → Type 0
RunsLine old new command None = RunsCommand old new command
RunsLine old new command (Some listing) = new ≡ old

-- the record of a turn, as the input of its lane
abbrev pub ReplaysTurn : Option Origin → RunState → RunState → Turn → Type 0
ReplaysTurn None old new turn = ⊥
ReplaysTurn (Some origin) old new turn = ReplaysInput turn.capture old new (input_of origin.link origin.port turn.taken)

-- an event: a line ran, or a record was taken
abbrev pub ReplaysEvent : List Origin → RunState → RunState → Event → Type 0
ReplaysEvent origins old new (Ran line) = RunsLine old new line.command (listing_of line.command)
ReplaysEvent origins old new (Taken turn) = ReplaysTurn (slice_get origins turn.capture) old new turn

-- one event after the other
abbrev pub ReplaysAll : List Origin → RunState → RunState → List Event → Type 0
ReplaysAll origins old new [] = new ≡ old
ReplaysAll origins old new (event ∷ events) = (between : RunState) × ReplaysEvent origins old between event × ReplaysAll origins between new events
