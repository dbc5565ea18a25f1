-- A replay that runs: what was replayed of the captures and the lines, and what is still to come.
use Rattle.std.specs.Prelude.{◌≡◌, ℕ, zero, suc, ◌+◌, ◌^◌, ◌<◌, ◌≤◌, Option, None, List, [], ◌∷◌, ◌++◌, length, map}
use Rattle.std.specs.List.{AllByRecursion}
use Rattle.std.specs.Option.{option_map}
use Rattle.fw_command.specs.WellFormed.{IsStepInRange}
use Rattle.fw_command.specs.declared.script.Step.{Step}
use Rattle.fw_base.specs.declared.port.Port.{Port}
use Rattle.fw_world.specs.Inputs.{Input}
use Rattle.fw_world.specs.RecordedHits.{EachHasRoom, TellsHits}
use Rattle.pcap_read.specs.Reading.{Captured}
use Rattle.rule_chain.specs.Configuration.{Configuration}
use Rattle.capture_tracks.specs.Commands.{Standing, after_lines}
use Rattle.serial_replay.specs.Events.{RunState, ReplaysAll}
use Rattle.serial_replay.specs.ReplayWorld.{run_state, AreLanesAt, IsSound, ReplayStandsFor}
use Rattle.capture_tracks.specs.Reading.{Origin, input_of}
use Rattle.capture_tracks.specs.Commands.{lines_outcome}
use Rattle.capture_tracks.specs.Tracks.{end_of, held_record_of, source_at}
use Rattle.serial_replay.specs.Tracks.{AreTracks, rooms_of}
use Rattle.capture_tracks.specs.declared.opened.OpenedCapture.{OpenedCapture}
use Rattle.fw_rule.specs.declared.command.Command.{Command}
use Rattle.fw_world.specs.Closing.{EachStandsFor, record_of_world}
use Rattle.fw_world.specs.Legal.{IsLegal}
use Rattle.fw_world.specs.World.{DeskStandsFor}
use Rattle.capture_tracks.specs.declared.replayed.Replayed.{Replayed}
use Rattle.serial_replay.specs.declared.running.Running.{Running}
use Rattle.capture_tracks.specs.declared.track.Track.{Track}
use Rattle.serial_schedule.specs.Agenda.{NoneIsDue}
use Rattle.fw_command.specs.Steps.{all_lines}
use Rattle.serial_schedule.specs.Order.{first_capture, in_order, moment_of, next_record_of}
use Rattle.serial_schedule.specs.Schedule.{events_from, schedule}
use Rattle.serial_schedule.specs.Steps.{steps_of}

-- where the captures were taken
abbrev pub ports_of : List Origin → List Port
ports_of origins = map (λ origin. origin.port) origins

-- the records of each capture as inputs of its lane
abbrev pub inputs_of : List Origin → List (List Captured) → List (List Input)
inputs_of [] dones = []
inputs_of (origin ∷ origins) [] = []
inputs_of (origin ∷ origins) (done ∷ dones) = map (input_of origin.link origin.port) done ∷ inputs_of origins dones

-- of each capture these records and then those
abbrev pub joined_records : List (List Captured) → List (List Captured) → List (List Captured)
joined_records [] rests = []
joined_records (done ∷ dones) [] = []
joined_records (done ∷ dones) (rest ∷ rests) = (done ++ rest) ∷ joined_records dones rests

-- one record more of the capture at that place
abbrev pub with_last : ℕ → Captured → List (List Captured) → List (List Captured)
with_last place r [] = []
with_last zero r (done ∷ dones) = (done ++ r ∷ []) ∷ dones
with_last (suc place) r (done ∷ dones) = done ∷ with_last place r dones

module _ {S : Type 0} where
  -- the record that comes first is that of this capture, or there is none
  abbrev pub first_capture_of : List (Track S) → Option ℕ
  first_capture_of tracks = first_capture (map (option_map moment_of) (map held_record_of tracks))

  module _ (left : S → Option (List ℕ)) (faults : S → ℕ) where
    -- they are the tracks of some captures
    pub record HaveTracks (tracks : List (Track S)) : Type 0 where
      pub limit : ℕ
      pub captures : List (OpenedCapture S)
      pub dones : List (List Captured)
      pub origins : List Origin
      pub are : AreTracks left faults limit captures tracks dones origins

    -- what every call needs
    pub record IsReady (run : Running S) : Type 0 where
      pub sound : IsSound run.replay
      pub formed : AllByRecursion IsStepInRange (steps_of run.agenda)
      pub matched : length run.replay.lanes.items ≡ length run.tracks
      pub tracked : HaveTracks run.tracks
      pub ports : AreLanesAt (ports_of tracked.origins) run.replay.lanes.items
      pub few : run.taken + rooms_of run.tracks ≤ 2 ^ 32

    -- Of the captures these records were replayed, and the lines so far. Whatever is still to come: going
    -- through it from here is going through the whole schedule from the first state.
    pub record IsUnderway (config : Configuration) (steps : List Step) (cache : Option ℕ) (limit : ℕ) (captures : List (OpenedCapture S)) (origins : List Origin) (first : RunState) (run : Running S) : Type 0 where
      pub dones : List (List Captured)
      pub standing : Standing
      pub tracks : AreTracks left faults limit captures run.tracks dones origins
      pub stands : ReplayStandsFor config (inputs_of origins dones) standing run.replay
      pub rooms : EachHasRoom cache run.replay.lanes.items
      pub lines : after_lines standing (all_lines (steps_of run.agenda)) ≡ lines_outcome config steps
      pub comes : (rests : List (List Captured)) (last : RunState) → map next_record_of rests ≡ map held_record_of run.tracks
          → ReplaysAll origins (run_state run.replay) last (events_from run.taken (steps_of run.agenda) (in_order rests)) → ReplaysAll origins first last (schedule steps (joined_records dones rests))

    -- what a call keeps
    pub record Keeps (old new : Running S) : Type 0 where
      pub ready : IsReady new
      pub goes : (config : Configuration) (steps : List Step) (cache : Option ℕ) (limit : ℕ) (captures : List (OpenedCapture S)) (origins : List Origin) (first : RunState)
          → IsUnderway config steps cache limit captures origins first old → IsUnderway config steps cache limit captures origins first new

    -- the lines that were due ran
    pub record RunsDue (old new : Running S) : Type 0 where
      pub keeps : Keeps old new
      pub none : NoneIsDue new.taken (steps_of new.agenda) (steps_of new.agenda)
      pub tracks : new.tracks ≡ old.tracks

    -- a record was replayed
    pub record TakesRecord (old new : Running S) : Type 0 where
      pub keeps : Keeps old new
      pub fewer : rooms_of new.tracks < rooms_of old.tracks

    -- no record and no line is left
    pub record RunsOut (old new : Running S) : Type 0 where
      pub keeps : Keeps old new
      pub lines : all_lines (steps_of new.agenda) ≡ []
      pub ended : first_capture_of new.tracks ≡ None

    -- The replay was closed: its record is that of its world and lanes, and legal where they stand for these.
    pub record Closes (run : Running S) (r : Replayed S) : Type 0 where
      pub record_is : r.record ≡ record_of_world run.replay.world run.replay.lanes.items
      pub legal : (first : Configuration) (commands : List Command) (inputs : List (List Input)) → DeskStandsFor run.replay.desk first commands → EachStandsFor run.replay.world run.replay.lanes.items inputs → IsLegal first commands inputs r.record
      pub hits : (cache : Option ℕ) (inputs : List (List Input)) → EachHasRoom cache run.replay.lanes.items → EachStandsFor run.replay.world run.replay.lanes.items inputs → TellsHits cache inputs r.record
      pub sources : r.sources.items ≡ map source_at run.tracks
      pub ends : r.ends.captures ≡ map end_of run.tracks
      pub answers : r.ends.answers ≡ run.replay.answers.items
