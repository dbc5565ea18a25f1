-- A world with its desk, its lanes and the answers so far, and what its calls do.
use Rattle.std.specs.Prelude.{◌≡◌, ⊤, ℕ, zero, suc, Option, Some, None, List, [], ◌∷◌, ◌++◌, length, slice_get}
use Rattle.std.specs.List.{AllByRecursion}
use Rattle.fw_base.specs.declared.port.Port.{Port}
use Rattle.fw_command.specs.declared.script.Line.{Line}
use Rattle.report_texts.specs.declared.ends.Answer.TheVariants.{Refused}
use Rattle.report_texts.specs.declared.ends.LineAnswer.{LineAnswer}
use Rattle.fw_rule.specs.declared.command.Command.{Command}
use Rattle.fw_world.specs.Caches.{IsPortFor}
use Rattle.fw_world.specs.RecordedHits.{EachHasRoom}
use Rattle.fw_world.specs.Closing.{AreLanesFrom, EachStandsFor}
use Rattle.fw_world.specs.CommitFaults.{RefusesCommand}
use Rattle.fw_world.specs.Inputs.{Input}
use Rattle.fw_world.specs.Lane.{LaneValue}
use Rattle.serial_world.specs.Steps.{Publishes}
use Rattle.fw_world.specs.World.{IsLaneOf, LaneStandsFor, DeskStandsFor}
use Rattle.rule_chain.specs.Configuration.{Configuration}
use Rattle.rule_edits.specs.declared.apply_fault.ApplyFault.{ApplyFault}
use Rattle.capture_tracks.specs.Commands.{Standing, listing_of, line_answer, after_line}
use Rattle.capture_tracks.specs.Operator.{OperatorValue, OperatorStandsFor, AddsAnswer}
use Rattle.serial_replay.specs.Events.{RunState, RunsLine, ReplaysInput}
use Rattle.serial_replay.specs.declared.replay_world.ReplayWorld.{ReplayWorld}

-- the world with its lanes
abbrev pub run_state : ReplayWorld → RunState
run_state replay = record { world = replay.world; lanes = replay.lanes.items }

-- what its desk shows, and the answers
abbrev pub operator_of : ReplayWorld → OperatorValue
operator_of replay = record { editions = replay.desk; answers = replay.answers.items }

-- no refusal stands against the lane, and no section of it is loose
abbrev pub IsClean : LaneValue → Type 0
IsClean lane = (lane.refusal ≡ None) × (lane.loose ≡ 0)

-- each lane judges packets that are captured at its port, if it has a cache
abbrev pub AreLanesAt : List Port → List LaneValue → Type 0
AreLanesAt [] [] = ⊤
AreLanesAt [] (lane ∷ lanes) = ⊥
AreLanesAt (port ∷ ports) [] = ⊥
AreLanesAt (port ∷ ports) (lane ∷ lanes) = IsPortFor lane.cache port × AreLanesAt ports lanes

-- the desk shows the world's editions, and the lanes are all lanes of the world
pub record IsSound (replay : ReplayWorld) : Type 0 where
  pub desk : replay.desk ≡ replay.world.editions
  pub lanes : AreLanesFrom replay.world 1 replay.lanes.items
  pub all : length replay.lanes.items ≡ replay.world.journal.lanes
  pub clean : AllByRecursion IsClean replay.lanes.items

-- It stands for a first configuration, for what the commands so far came to, and for these inputs.
pub record ReplayStandsFor (first : Configuration) (inputs : List (List Input)) (standing : Standing) (replay : ReplayWorld) : Type 0 where
  pub sound : IsSound replay
  pub operator : OperatorStandsFor first standing (operator_of replay)
  pub stands : EachStandsFor replay.world replay.lanes.items inputs

-- one answer more, and nothing else
pub record AnswersLine (old new : ReplayWorld) (answer : LineAnswer) : Type 0 where
  pub world : new.world ≡ old.world
  pub lanes : new.lanes.items ≡ old.lanes.items
  pub answered : AddsAnswer (operator_of old) (operator_of new) answer

-- an edition was published
pub record Accepts (old new : ReplayWorld) (command : Command) : Type 0 where
  pub publishes : Publishes old.world new.world command
  pub desk : new.desk ≡ new.world.editions
  pub lanes : new.lanes.items ≡ old.lanes.items
  pub answers : new.answers.items ≡ old.answers.items
  pub kept : (lane : LaneValue) → IsLaneOf old.world lane → IsLaneOf new.world lane
  pub stands : (lane : LaneValue) (inputs : List Input) → LaneStandsFor old.world lane inputs → LaneStandsFor new.world lane inputs
  pub accepts : (first : Configuration) (commands : List Command) → DeskStandsFor old.desk first commands → DeskStandsFor new.desk first (commands ++ command ∷ [])

-- the command was refused
pub record RefusesLine (old new : ReplayWorld) (line : Line) : Type 0 where
  pub fault : ApplyFault
  pub refusal : RefusesCommand old.world.editions line.command fault
  pub answers : AnswersLine old new (line_answer line.line (Refused fault))

-- a line ran
pub record RunsALine (old new : ReplayWorld) (line : Line) : Type 0 where
  pub runs : RunsLine (run_state old) (run_state new) line.command (listing_of line.command)
  pub sound : IsSound old → IsSound new
  pub lanes : new.lanes.items ≡ old.lanes.items
  pub stands : (first : Configuration) (inputs : List (List Input)) (standing : Standing) → ReplayStandsFor first inputs standing old → ReplayStandsFor first inputs (after_line standing line) new

-- the inputs of all lanes, with one more of the lane at this place, from 0
abbrev pub with_input : ℕ → Input → List (List Input) → List (List Input)
with_input place input [] = []
with_input zero input (inputs ∷ others) = (inputs ++ input ∷ []) ∷ others
with_input (suc place) input (inputs ∷ others) = inputs ∷ with_input place input others

-- a record of the lane at this place, which was captured at that port, was replayed
pub record ReplaysARecord (place : ℕ) (port : Port) (input : Input) (old new : ReplayWorld) : Type 0 where
  pub replays : ReplaysInput place (run_state old) (run_state new) input
  pub sound : IsSound old → IsSound new
  pub lanes : length new.lanes.items ≡ length old.lanes.items
  -- each lane is at its port still, and its cache has as much room
  pub ports : (ports : List Port) → slice_get ports place ≡ Some port → AreLanesAt ports old.lanes.items → AreLanesAt ports new.lanes.items
  pub rooms : (cache : Option ℕ) → EachHasRoom cache old.lanes.items → EachHasRoom cache new.lanes.items
  pub stands : (first : Configuration) (inputs : List (List Input)) (standing : Standing) → ReplayStandsFor first inputs standing old → ReplayStandsFor first (with_input place input inputs) standing new
