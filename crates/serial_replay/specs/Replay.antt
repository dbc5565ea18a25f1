-- A whole replay in the order of the schedule.
use Rattle.std.specs.Prelude.{◌≡◌, ℕ, Option, List, [], ◌∷◌, length, map}
use Rattle.fw_command.specs.declared.script.Step.{Step}
use Rattle.serial_world.specs.SerialLane.{first_lanes}
use Rattle.fw_world.specs.RecordValue.{RecordValue}
use Rattle.generation_store.specs.Published.{Published, IsBuilt}
use Rattle.rule_chain.specs.Configuration.{Configuration}
use Rattle.serial_replay.specs.Events.{RunState, ReplaysAll}
use Rattle.capture_tracks.specs.Reading.{Track, origin_of}
use Rattle.capture_tracks.specs.Replay.{IsReplay}
use Rattle.capture_tracks.specs.declared.opened.OpenedCapture.{OpenedCapture}
use Rattle.capture_tracks.specs.declared.replayed.Replayed.{Replayed}
use Rattle.serial_schedule.specs.Schedule.{schedule}
use Rattle.state_journal.specs.Journal.{first_journal}

-- nothing was replayed yet: edition 1 is published, and each of so many lanes is new, with an empty cache for so
-- many verdicts or with none
pub record IsFirstState (config : Configuration) (cache : Option ℕ) (lanes : ℕ) (state : RunState) : Type 0 where
  pub edition : Published
  pub built : IsBuilt 1 config edition
  pub editions : state.world.editions ≡ edition ∷ []
  pub journal : state.world.journal ≡ first_journal lanes edition.facts
  pub lanes_new : state.lanes ≡ first_lanes cache 1 lanes

-- the record of a world and its lanes
pub record IsRecordOf (state : RunState) (r : RecordValue) : Type 0 where
  pub editions : r.editions ≡ state.world.editions
  pub journal : r.journal ≡ state.world.journal
  pub dockets : r.dockets ≡ map (λ lane. lane.docket) state.lanes
  pub tallies : r.tallies ≡ map (λ lane. lane.tally) state.lanes
  pub trackers : r.trackers ≡ map (λ lane. lane.tracker) state.lanes

-- The record comes of going through these events one after the other, from edition 1 on.
pub record ComesOf (config : Configuration) (steps : List Step) (cache : Option ℕ) (tracks : List Track) (r : RecordValue) : Type 0 where
  pub first : RunState
  pub begins : IsFirstState config cache (length tracks) first
  pub last : RunState
  pub replays : ReplaysAll (map origin_of tracks) first last (schedule steps (map (λ track. track.records) tracks))
  pub ends : IsRecordOf last r

module _ {S : Type 0} (left : S → Option (List ℕ)) (faults : S → ℕ) where
  -- a replay whose record comes of going through commands and records in the order of the schedule
  pub record IsSerialReplay (config : Configuration) (steps : List Step) (cache : Option ℕ) (captures : List (OpenedCapture S)) (r : Replayed S) : Type 0 where
    pub replay : IsReplay left faults config steps cache captures r
    pub ordered : ComesOf config steps cache replay.tracks r.record
