-- All workers and the operator: what they begin with, and what they leave.
use Rattle.std.specs.Prelude.{◌≡◌, ℕ, ⊤, ◌+◌, List, [], ◌∷◌, length, map, Option}
use Rattle.atomic_table.specs.Seated.{TableId}
use Rattle.capture_tracks.specs.declared.opened.OpenedCapture.{OpenedCapture}
use Rattle.capture_tracks.specs.declared.replayed.Replayed.{Replayed}
use Rattle.report_texts.specs.declared.capture_end.CaptureEnd.{CaptureEnd}
use Rattle.fw_rule.specs.declared.command.Command.{Command}
use Rattle.fw_world.specs.Inputs.{Input}
use Rattle.fw_world.specs.Legal.{IsLegal}
use Rattle.rule_chain.specs.Configuration.{Configuration}
use Rattle.fw_world.specs.RecordedHits.{TellsHits}
use Rattle.shared_world.specs.Closing.{EachHasRoom, EachStandsFor}
use Rattle.shared_world.specs.SharedLane.{SharedLane}
use Rattle.shared_world.specs.Standing.{DeskStandsFor}
use Rattle.live_replay.specs.Posted.{IsPosted}
use Rattle.live_replay.specs.Work.{Finishes}
use Rattle.live_replay.specs.declared.crew.Relieved.{Relieved}
use Rattle.live_replay.specs.declared.task.Finished.{Finished}
use Rattle.live_replay.specs.declared.task.Task.{Task}

-- the lanes are at their posts in this world, from this place on
abbrev pub ArePostedFrom : TableId → ℕ → List SharedLane → Type 0
ArePostedFrom world place [] = ⊤
ArePostedFrom world place (lane ∷ lanes) = (lane.place ≡ place) × IsPosted world lane × ArePostedFrom world (place + 1) lanes

module _ {S : Type 0} where
  -- a task for each capture and its lane
  abbrev pub tasks_of : ℕ → List (OpenedCapture S) → List SharedLane → List (Task S)
  tasks_of limit [] lanes = []
  tasks_of limit (opened ∷ captures) [] = []
  tasks_of limit (opened ∷ captures) (lane ∷ lanes) = record { opened = opened; limit = limit; lane = lane } ∷ tasks_of limit captures lanes

  -- the lanes of those that finished, their sources, and how their captures ended
  abbrev pub lanes_of : List (Finished S) → List SharedLane
  lanes_of finished = map (λ f. f.lane) finished

  -- the sources of the captures that were read
  abbrev pub sources_of : List (Finished S) → List S
  sources_of finished = map (λ f. f.source) finished

  -- how these captures ended
  abbrev pub ends_of : List (Finished S) → List CaptureEnd
  ends_of finished = map (λ f. f.end) finished

  -- all lanes of this world are at their posts, and the desk is its desk
  pub record CanClose (world : TableId) (r : Relieved S) : Type 0 where
    pub posted : ArePostedFrom world 1 (lanes_of r.finished.items)
    pub all : length r.finished.items ≡ r.operator.desk.lanes
    pub desk : r.operator.desk.world ≡ world

  -- The record is legal for what desk and lanes stand for, and its hits are those of the lanes' inputs; sources,
  -- ends and answers are those that were left.
  pub record Closes (r : Relieved S) (replayed : Replayed S) : Type 0 where
    pub sources : replayed.sources.items ≡ sources_of r.finished.items
    pub ends : replayed.ends.captures ≡ ends_of r.finished.items
    pub answers : replayed.ends.answers ≡ r.operator.answers.items
    pub legal : (first : Configuration) (commands : List Command) (inputs : List (List Input)) → DeskStandsFor r.operator.desk first commands → EachStandsFor (lanes_of r.finished.items) inputs → IsLegal first commands inputs replayed.record
    pub hits : (cache : Option ℕ) (inputs : List (List Input)) → EachHasRoom cache (lanes_of r.finished.items) → EachStandsFor (lanes_of r.finished.items) inputs → TellsHits cache inputs replayed.record

  module _ (left : S → Option (List ℕ)) (faults : S → ℕ) where
    -- each task was finished
    abbrev pub EachFinishes : TableId → List (Task S) → List (Finished S) → Type 0
    EachFinishes world [] [] = ⊤
    EachFinishes world [] (f ∷ finished) = ⊥
    EachFinishes world (task ∷ tasks) [] = ⊥
    EachFinishes world (task ∷ tasks) (f ∷ finished) = Finishes left faults world task f × EachFinishes world tasks finished
