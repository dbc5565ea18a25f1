-- A whole replay over a shared world: what it comes to.
use Rattle.std.proofs.Common.{◌≡◌, ℕ, ◌+◌, Option, List, [], ◌∷◌, map, length, refl, sym, ap, subst, ◌∙◌, arith}
use Rattle.atomic_table.specs.Seated.{TableId}
use Rattle.capture_tracks.specs.Commands.{first_standing, lines_outcome}
use Rattle.capture_tracks.specs.Operator.{OperatorStandsFor}
use Rattle.capture_tracks.specs.Reading as reading
use Rattle.capture_tracks.specs.Reading.{AllRead, track_inputs}
use Rattle.capture_tracks.specs.Replay.{IsReplay, limit_for}
use Rattle.capture_tracks.specs.declared.opened.OpenedCapture.{OpenedCapture}
use Rattle.capture_tracks.specs.declared.replayed.Replayed.{Replayed}
use Rattle.fw_command.specs.Steps.{all_lines}
use Rattle.fw_command.specs.declared.script.Step.{Step}
use Rattle.report_texts.specs.declared.capture_end.CaptureEnd.{CaptureEnd}
use Rattle.fw_rule.specs.declared.command.Command.{Command}
use Rattle.fw_world.specs.Editions.{IsLastOf}
use Rattle.fw_world.specs.World as plain
use Rattle.generation_store.specs.Published.{Published}
use Rattle.rule_chain.specs.Configuration.{Configuration}
use Rattle.fw_world.specs.Caches.{capacity_of}
use Rattle.shared_world.specs.Closing.{AreNewLanes, EachHasRoom, EachStandsFor}
use Rattle.shared_world.specs.SharedDesk.{SharedDesk, IsNewDesk}
use Rattle.shared_world.specs.SharedLane.{SharedLane}
use Rattle.shared_world.specs.Standing.{DeskStandsFor}
use Rattle.live_replay.proofs.Gathered.{new_room}
use Rattle.live_replay.specs.Crew.{ArePostedFrom, CanClose, Closes, EachFinishes, tasks_of, lanes_of, sources_of, ends_of}
use Rattle.live_replay.specs.Operating.{operator_of, RunsLines}
use Rattle.live_replay.specs.declared.crew.Relieved.{Relieved}
use Rattle.live_replay.specs.declared.operator.Operator.{Operator}
use Rattle.live_replay.specs.declared.task.Finished.{Finished}
use Rattle.live_replay.specs.declared.task.Task.{Task}

-- the operator of a new world stands for its first configuration and no line
first_stands : (config : Configuration) (lanes : ℕ) (world : TableId) (operator : Operator) → IsNewDesk config lanes world operator.desk → operator.answers.items ≡ [] → OperatorStandsFor config (first_standing config) (operator_of operator)
first_stands config lanes world operator h none =
    let editions : operator.desk.editions ≡ h.edition ∷ [] = ap (λ (d : SharedDesk). d.editions) h.is in
    record {
      config = (h.edition, subst (λ (all : List Published). IsLastOf all h.edition) (sym editions) refl, h.built.configured);
      number = sym (ap length editions);
      accepted = subst (λ (all : List Published). plain.DeskStandsFor all config []) (sym editions) h.built;
      answers = none;
    }

-- what the desk stands for is what its editions stand for
desk_stands : (desk : SharedDesk) (first : Configuration) (commands : List Command) → plain.DeskStandsFor desk.editions first commands → DeskStandsFor desk first commands
unfolding DeskStandsFor
desk_stands desk first commands stands = stands

module _ {S : Type 0} (left : S → Option (List ℕ)) (faults : S → ℕ) where
  -- what all workers leave
  record AllTold (limit : ℕ) (captures : List (OpenedCapture S)) (finished : List (Finished S)) : Type 0 where
    told : List reading.Track
    read : AllRead left faults limit captures (sources_of finished) told (ends_of finished)
    stands : EachStandsFor (lanes_of finished) (map track_inputs told)

  all_told : (world : TableId) (limit : ℕ) (captures : List (OpenedCapture S)) (lanes : List SharedLane) (finished : List (Finished S)) → length captures ≡ length lanes → EachFinishes left faults world (tasks_of limit captures lanes) finished → AllTold limit captures finished
  all_told world limit [] lanes [] same each = record { told = []; read = tt; stands = tt }
  all_told world limit [] lanes (f ∷ finished) same each = absurd each
  all_told world limit (opened ∷ captures) [] finished same each = absurd (omega arith)
  all_told world limit (opened ∷ captures) (lane ∷ lanes) [] same each = absurd each
  all_told world limit (opened ∷ captures) (lane ∷ lanes) (f ∷ finished) same each =
      let rest = all_told world limit captures lanes finished (omega arith) each.1 in
      record { told = each.0.told ∷ rest.told; read = (each.0.port, each.0.read, rest.read); stands = (each.0.stands, rest.stands) }

  all_posted : (cache : Option ℕ) (world : TableId) (place limit : ℕ) (captures : List (OpenedCapture S)) (lanes : List SharedLane) (finished : List (Finished S)) → length captures ≡ length lanes → AreNewLanes world cache place lanes → EachFinishes left faults world (tasks_of limit captures lanes) finished
      → ArePostedFrom world place (lanes_of finished) × (length finished ≡ length lanes)
  all_posted cache world place limit [] [] [] same new each = (tt, refl)
  all_posted cache world place limit [] (lane ∷ lanes) finished same new each = absurd (omega arith)
  all_posted cache world place limit [] [] (f ∷ finished) same new each = absurd each
  all_posted cache world place limit (opened ∷ captures) [] finished same new each = absurd (omega arith)
  all_posted cache world place limit (opened ∷ captures) (lane ∷ lanes) [] same new each = absurd each
  all_posted cache world place limit (opened ∷ captures) (lane ∷ lanes) (f ∷ finished) same new each =
      let rest = all_posted cache world (place + 1) limit captures lanes finished (omega arith) new.2 each.1 in
      ((each.0.place ∙ ap (λ (l : SharedLane). l.place) new.0, each.0.posted, rest.0), omega (arith, rest.1))

  all_room : (cache : Option ℕ) (world : TableId) (place limit : ℕ) (captures : List (OpenedCapture S)) (lanes : List SharedLane) (finished : List (Finished S)) → length captures ≡ length lanes → AreNewLanes world cache place lanes → EachFinishes left faults world (tasks_of limit captures lanes) finished
      → EachHasRoom cache (lanes_of finished)
  all_room cache world place limit [] lanes [] same new each = tt
  all_room cache world place limit [] lanes (f ∷ finished) same new each = absurd each
  all_room cache world place limit (opened ∷ captures) [] finished same new each = absurd (omega arith)
  all_room cache world place limit (opened ∷ captures) (lane ∷ lanes) [] same new each = absurd each
  all_room cache world place limit (opened ∷ captures) (lane ∷ lanes) (f ∷ finished) same new each = (
    each.0.room ∙ ap (λ (l : SharedLane). capacity_of l.cache) new.0 ∙ new_room cache,
    all_room cache world (place + 1) limit captures lanes finished (omega arith) new.2 each.1,
  )

  -- A crew that ran over a new world.
  pub record Ran (config : Configuration) (steps : List Step) (cache : Option ℕ) (limit : ℕ) (captures : List (OpenedCapture S)) (world : TableId) (relieved : Relieved S) : Type 0 where
    pub lanes : List SharedLane
    pub operator : Operator
    pub new_lanes : AreNewLanes world cache 1 lanes
    pub counted : length captures ≡ length lanes
    pub new_desk : IsNewDesk config (length lanes) world operator.desk
    pub no_answer : operator.answers.items ≡ []
    pub finished : EachFinishes left faults world (tasks_of limit captures lanes) relieved.finished.items
    pub lines : RunsLines operator relieved.operator (all_lines steps)

  -- so it did where its parts are these
  pub ran_over : (config : Configuration) (steps : List Step) (cache : Option ℕ) (limit count : ℕ) (captures : List (OpenedCapture S)) (world : TableId) (lanes : List SharedLane) (operator : Operator) (tasks : List (Task S)) (relieved : Relieved S) → count ≡ length captures
      → AreNewLanes world cache 1 lanes → length lanes ≡ count → IsNewDesk config count world operator.desk → operator.answers.items ≡ [] → tasks ≡ tasks_of limit captures lanes
      → EachFinishes left faults world tasks relieved.finished.items → RunsLines operator relieved.operator (all_lines steps) → Ran config steps cache limit captures world relieved
  ran_over config steps cache limit count captures world lanes operator tasks relieved counted new_lanes as_many new_desk no_answer are finished lines = record {
    lanes = lanes;
    operator = operator;
    new_lanes = new_lanes;
    counted = sym counted ∙ sym as_many;
    new_desk = subst (λ n. IsNewDesk config n world operator.desk) (sym as_many) new_desk;
    no_answer = no_answer;
    finished = subst (λ (ts : List (Task S)). EachFinishes left faults world ts relieved.finished.items) are finished;
    lines = lines;
  }

  -- the world of a crew that is done can be closed
  pub can_close : (config : Configuration) (steps : List Step) (cache : Option ℕ) (limit : ℕ) (captures : List (OpenedCapture S)) (world : TableId) (relieved : Relieved S) → Ran config steps cache limit captures world relieved → CanClose world relieved
  can_close config steps cache limit captures world relieved h =
      let posted = all_posted cache world 1 limit captures h.lanes relieved.finished.items h.counted h.new_lanes h.finished in
      record {
        posted = posted.0;
        all = posted.1 ∙ sym (h.lines.desk.lanes ∙ ap (λ (d : SharedDesk). d.lanes) h.new_desk.is);
        desk = h.lines.desk.world ∙ ap (λ (d : SharedDesk). d.world) h.new_desk.is;
      }

  -- and comes to a replay
  pub comes_to : (config : Configuration) (steps : List Step) (cache : Option ℕ) (limit : ℕ) (captures : List (OpenedCapture S)) (world : TableId) (relieved : Relieved S) (r : Replayed S) → limit ≡ limit_for (length captures) → Ran config steps cache limit captures world relieved → Closes relieved r
      → IsReplay left faults config steps cache captures r
  comes_to config steps cache limit captures world relieved r limit-is h closed =
      let all = all_told world limit captures h.lanes relieved.finished.items h.counted h.finished in
      let stands = h.lines.stands config (first_standing config) (first_stands config (length h.lanes) world h.operator h.new_desk h.no_answer) in
      record {
        tracks = all.told;
        read = subst (λ n. AllRead left faults n captures r.sources.items all.told r.ends.captures) limit-is
            (subst (λ (sources : List S). AllRead left faults limit captures sources all.told r.ends.captures) (sym closed.sources)
            (subst (λ (ends : List CaptureEnd). AllRead left faults limit captures (sources_of relieved.finished.items) all.told ends) (sym closed.ends) all.read));
        legal = closed.legal config (lines_outcome config steps).accepted (map track_inputs all.told) (desk_stands relieved.operator.desk config (lines_outcome config steps).accepted stands.accepted) all.stands;
        hits = closed.hits cache (map track_inputs all.told) (all_room cache world 1 limit captures h.lanes relieved.finished.items h.counted h.new_lanes h.finished) all.stands;
        answered = closed.answers ∙ stands.answers;
      }
