-- A whole replay: how it begins, and what it comes to.
use Rattle.std.proofs.Common.{◌≡◌, ℕ, zero, suc, ◌+◌, ◌*◌, ◌≤◌, Option, Some, None, List, [], ◌∷◌, map, length, refl, sym, ap, subst, ◌∙◌, arith}
use Rattle.std.specs.List.{AllByRecursion}
use Rattle.std.proofs.Math.Nat.{mul-le-mul}
use Rattle.std.proofs.lemmas.List.{length-map}
use Rattle.fw_command.specs.WellFormed.{IsStepInRange}
use Rattle.fw_command.specs.declared.script.Step.{Step}
use Rattle.fw_world.specs.Closing.{AreLanesFrom, EachStandsFor}
use Rattle.fw_world.specs.Editions.{IsLastOf}
use Rattle.fw_world.specs.Lane.{LaneValue}
use Rattle.serial_world.specs.SerialLane.{first_lanes}
use Rattle.fw_world.specs.Legal.{IsLegal}
use Rattle.fw_world.specs.Asks.{lane_asks}
use Rattle.fw_world.proofs.Caching.{CacheStandsFor-none}
use Rattle.fw_world.proofs.Judging.{StandFor-none}
use Rattle.fw_base.specs.declared.port.Port.{Port}
use Rattle.fw_world.specs.Caches.{first_cache, capacity_of, IsPortFor, IsCacheAmong}
use Rattle.fw_world.specs.RecordedHits.{EachHasRoom, TellsHits}
use Rattle.fw_world.specs.Standing.{StandFor}
use Rattle.fw_world.specs.RecordValue.{RecordValue}
use Rattle.fw_world.specs.World.{WorldValue, published_count, DeskStandsFor}
use Rattle.serial_world.specs.WorldKept.{IsNewWorld}
use Rattle.pcap_read.specs.Reading.{Captured}
use Rattle.rule_chain.specs.Configuration.{Configuration}
use Rattle.state_journal.specs.Journal.{Journal, first_journal}
use Rattle.capture_tracks.specs.Commands.{Standing, after_lines, first_standing}
use Rattle.serial_replay.specs.Events.{ReplaysAll}
use Rattle.serial_replay.specs.ReplayWorld.{run_state, AreLanesAt, IsClean, IsSound}
use Rattle.capture_tracks.specs.Reading as reading
use Rattle.capture_tracks.specs.Reading.{Origin, origin_of, AllRead, track_inputs}
use Rattle.capture_tracks.specs.Commands.{lines_outcome}
use Rattle.capture_tracks.specs.Replay.{limit_for}
use Rattle.serial_replay.specs.Replay.{IsSerialReplay}
use Rattle.serial_replay.specs.Running.{inputs_of, ports_of, joined_records, IsReady, IsUnderway, Closes, RunsOut}
use Rattle.capture_tracks.specs.Tracks.{held_record_of, source_at}
use Rattle.serial_replay.specs.Tracks.{AreTracks, BeginAll}
use Rattle.capture_tracks.specs.declared.opened.OpenedCapture.{OpenedCapture}
use Rattle.capture_tracks.specs.declared.replayed.Replayed.{Replayed}
use Rattle.serial_replay.specs.declared.running.Running.{Running}
use Rattle.capture_tracks.specs.declared.track.Track.{Track}
use Rattle.fw_command.specs.Steps.{all_lines}
use Rattle.serial_schedule.specs.Order.{in_order, next_record_of}
use Rattle.serial_schedule.specs.Schedule.{events_from, schedule}
use Rattle.serial_schedule.specs.Steps.{steps_of}
use Rattle.serial_schedule.proofs.Events.{events-ended, events-none}
use Rattle.serial_schedule.proofs.Turns.{no_records, none_first}
use Rattle.serial_replay.proofs.Ended.{ended-told, inputs-same, joined-none}
use Rattle.serial_replay.proofs.Keeping.{none_of_rests}

-- no section of a clean lane is loose
pub no-loose : (lanes : List LaneValue) → AllByRecursion IsClean lanes → AllByRecursion (λ (lane : LaneValue). lane.loose ≡ 0) lanes
no-loose [] clean = tt
no-loose (lane ∷ lanes) clean = (clean.0.1, no-loose lanes clean.1)

lanes-first : (cache : Option ℕ) (world : WorldValue) (place count total : ℕ) → 1 ≤ place → place + count ≤ total + 1 → world.journal.lanes ≡ total → 1 ≤ published_count world → AreLanesFrom world place (first_lanes cache place count)
lanes-first cache world place zero total least within lanes some = tt
lanes-first cache world place (suc count) total least within lanes some = (
  refl,
  record { first = least; last = omega arith; held = some; heard = tt; judged = λ k d less. absurd (omega arith); cached = nothing_kept cache },
  lanes-first cache world (place + 1) count total (omega arith) (omega arith) lanes some,
)
  where
    nothing_kept : (cache : Option ℕ) → IsCacheAmong world.editions (first_cache cache)
    nothing_kept None = tt
    nothing_kept (Some capacity) = tt

length-first : (cache : Option ℕ) (place count : ℕ) → length (first_lanes cache place count) ≡ count
length-first cache place zero = refl
length-first cache place (suc count) = let rest = length-first cache (place + 1) count in omega arith

clean-first : (cache : Option ℕ) (place count : ℕ) → AllByRecursion IsClean (first_lanes cache place count)
clean-first cache place zero = tt
clean-first cache place (suc count) = ((refl, refl), clean-first cache (place + 1) count)

-- new lanes have as much room as was asked for
rooms-first : (cache : Option ℕ) (place count : ℕ) → EachHasRoom cache (first_lanes cache place count)
rooms-first cache place zero = tt
rooms-first cache place (suc count) = (room cache, rooms-first cache (place + 1) count)
  where
    room : (cache : Option ℕ) → capacity_of (first_cache cache) ≡ cache
    room None = refl
    room (Some capacity) = refl

-- and may be at any port
ports-first : (cache : Option ℕ) (place count : ℕ) (ports : List Port) → length ports ≡ count → AreLanesAt ports (first_lanes cache place count)
ports-first cache place zero [] same = tt
ports-first cache place zero (port ∷ ports) same = absurd (omega arith)
ports-first cache place (suc count) [] same = absurd (omega arith)
ports-first cache place (suc count) (port ∷ ports) same = (free cache, ports-first cache (place + 1) count ports (omega arith))
  where
    free : (cache : Option ℕ) → IsPortFor (first_cache cache) port
    free None = tt
    free (Some capacity) = tt

stands-first : {S : Type 0} (cache : Option ℕ) (world : WorldValue) (place count : ℕ) (origins : List Origin) (tracks : List (Track S)) → ((k : ℕ) → lane_asks k world.journal.entries ≡ []) → length origins ≡ count → length tracks ≡ count
    → EachStandsFor world (first_lanes cache place count) (inputs_of origins (map (λ (track : Track S). []) tracks))
stands-first cache world place zero [] [] asks a b = tt
stands-first cache world place zero (origin ∷ origins) tracks asks a b = absurd (omega arith)
stands-first cache world place zero [] (track ∷ tracks) asks a b = absurd (omega arith)
stands-first cache world place (suc count) [] tracks asks a b = absurd (omega arith)
stands-first cache world place (suc count) (origin ∷ origins) [] asks a b = absurd (omega arith)
stands-first cache world place (suc count) (origin ∷ origins) (track ∷ tracks) asks a b =
    (record { stands = subst (λ own. StandFor world.editions own (record { entries = []; refused = 0 }) [] []) (sym (asks place)) (StandFor-none world.editions); cached = CacheStandsFor-none world.editions cache }, stands-first cache world (place + 1) count origins tracks asks (omega arith) (omega arith))

joined-first : {S : Type 0} (tracks : List (Track S)) (rests : List (List Captured)) → map next_record_of rests ≡ map held_record_of tracks → joined_records (map (λ (track : Track S). []) tracks) rests ≡ rests
joined-first [] [] fits = refl
joined-first [] (rest ∷ rests) fits = cc
joined-first (track ∷ tracks) [] fits = cc
joined-first (track ∷ tracks) (rest ∷ rests) fits = let others : map next_record_of rests ≡ map held_record_of tracks = cc in ap (λ more. rest ∷ more) (joined-first tracks rests others)

module _ {S : Type 0} (left : S → Option (List ℕ)) (faults : S → ℕ) where
  lengths : (limit : ℕ) (captures : List (OpenedCapture S)) (tracks : List (Track S)) (dones : List (List Captured)) (origins : List Origin) → AreTracks left faults limit captures tracks dones origins → (length tracks ≡ length captures) × (length origins ≡ length captures)
  lengths limit [] [] [] [] are = (refl, refl)
  lengths limit [] [] [] (origin ∷ origins) are = absurd are
  lengths limit [] [] (done ∷ dones) origins are = absurd are
  lengths limit [] (track ∷ tracks) dones origins are = absurd are
  lengths limit (opened ∷ captures) [] dones origins are = absurd are
  lengths limit (opened ∷ captures) (track ∷ tracks) [] origins are = absurd are
  lengths limit (opened ∷ captures) (track ∷ tracks) (done ∷ dones) [] are = absurd are
  lengths limit (opened ∷ captures) (track ∷ tracks) (done ∷ dones) (origin ∷ origins) are = let rest = lengths limit captures tracks dones origins are.2 in (omega arith, omega arith)

  -- A replay that begins.
  pub record Starts (config : Configuration) (steps : List Step) (cache : Option ℕ) (limit : ℕ) (captures : List (OpenedCapture S)) (run : Running S) : Type 0 where
    pub count : ℕ
    pub opened : IsNewWorld config count run.replay.world
    pub lanes : run.replay.lanes.items ≡ first_lanes cache 1 count
    pub desk : run.replay.desk ≡ run.replay.world.editions
    pub answers : run.replay.answers.items ≡ []
    pub tracks : BeginAll left faults limit captures run.tracks
    pub agenda : steps_of run.agenda ≡ steps
    pub taken : run.taken ≡ 0
    pub counted : count ≡ length captures
    pub few : (count ≤ 16) × (limit ≤ 4194304)
    pub formed : AllByRecursion IsStepInRange steps

  starts-sound : (config : Configuration) (steps : List Step) (cache : Option ℕ) (limit : ℕ) (captures : List (OpenedCapture S)) (run : Running S) → Starts config steps cache limit captures run → IsSound run.replay
  starts-sound config steps cache limit captures run h =
      let lanes : run.replay.world.journal.lanes ≡ h.count = ap (λ (j : Journal). j.lanes) h.opened.journal in
      let one : published_count run.replay.world ≡ 1 = ap length h.opened.editions in
      record {
        desk = h.desk;
        lanes = subst (λ l. AreLanesFrom run.replay.world 1 l) (sym h.lanes) (lanes-first cache run.replay.world 1 h.count h.count (omega arith) (omega arith) lanes (omega arith));
        all = ap length h.lanes ∙ length-first cache 1 h.count ∙ sym lanes;
        clean = subst (λ l. AllByRecursion IsClean l) (sym h.lanes) (clean-first cache 1 h.count);
      }

  -- a replay that begins is ready for its steps
  pub starts-ready : (config : Configuration) (steps : List Step) (cache : Option ℕ) (limit : ℕ) (captures : List (OpenedCapture S)) (run : Running S) → Starts config steps cache limit captures run → IsReady left faults run
  starts-ready config steps cache limit captures run h =
      let same = lengths limit captures run.tracks (map (λ (track : Track S). []) run.tracks) h.tracks.origins h.tracks.begun in
      record {
        sound = starts-sound config steps cache limit captures run h;
        formed = subst (λ s. AllByRecursion IsStepInRange s) (sym h.agenda) h.formed;
        matched = ap length h.lanes ∙ length-first cache 1 h.count ∙ h.counted ∙ sym same.0;
        tracked = record { limit = limit; captures = captures; dones = map (λ (track : Track S). []) run.tracks; origins = h.tracks.origins; are = h.tracks.begun };
        ports = subst (λ l. AreLanesAt (ports_of h.tracks.origins) l) (sym h.lanes)
            (ports-first cache 1 h.count (ports_of h.tracks.origins) (length-map h.tracks.origins (λ (o : Origin). o.port) ∙ same.1 ∙ sym h.counted));
        few =
            let most : length run.tracks ≤ 16 = omega (arith, same.0, h.counted, h.few.0) in
            let product : limit * length run.tracks ≤ 4194304 * 16 = mul-le-mul h.few.1 most in
            omega (arith, product, h.tracks.room, h.taken);
      }

  starts-goes : (config : Configuration) (steps : List Step) (cache : Option ℕ) (limit : ℕ) (captures : List (OpenedCapture S)) (run : Running S) → (h : Starts config steps cache limit captures run) → IsUnderway left faults config steps cache limit captures h.tracks.origins (run_state run.replay) run
  starts-goes config steps cache limit captures run h =
      let same = lengths limit captures run.tracks (map (λ (track : Track S). []) run.tracks) h.tracks.origins h.tracks.begun in
      let asks : (k : ℕ) → lane_asks k run.replay.world.journal.entries ≡ [] = λ k. ap (λ (j : Journal). lane_asks k j.entries) h.opened.journal in
      record {
        dones = map (λ (track : Track S). []) run.tracks;
        standing = first_standing config;
        tracks = h.tracks.begun;
        stands = record {
          sound = starts-sound config steps cache limit captures run h;
          operator = record {
            config = (h.opened.edition, subst (λ editions. IsLastOf editions h.opened.edition) (sym (h.desk ∙ h.opened.editions)) refl, h.opened.built.configured);
            number = sym (ap length (h.desk ∙ h.opened.editions));
            accepted = subst (λ editions. DeskStandsFor editions config []) (sym (h.desk ∙ h.opened.editions)) h.opened.built;
            answers = h.answers;
          };
          stands = subst (λ l. EachStandsFor run.replay.world l (inputs_of h.tracks.origins (map (λ (track : Track S). []) run.tracks))) (sym h.lanes)
              (stands-first cache run.replay.world 1 h.count h.tracks.origins run.tracks asks (same.1 ∙ sym h.counted) (same.0 ∙ sym h.counted));
        };
        rooms = subst (λ l. EachHasRoom cache l) (sym h.lanes) (rooms-first cache 1 h.count);
        lines = ap (λ s. after_lines (first_standing config) (all_lines s)) h.agenda;
        comes = λ rests last fits all.
            let from_first = subst (λ n. ReplaysAll h.tracks.origins (run_state run.replay) last (events_from n (steps_of run.agenda) (in_order rests))) h.taken all in
            let of_steps = subst (λ s. ReplaysAll h.tracks.origins (run_state run.replay) last (events_from 0 s (in_order rests))) h.agenda from_first in
            subst (λ records. ReplaysAll h.tracks.origins (run_state run.replay) last (schedule steps records)) (sym (joined-first run.tracks rests fits)) of_steps;
      }

  standing-last : (standing outcome : Standing) (steps : List Step) → after_lines standing (all_lines steps) ≡ outcome → all_lines steps ≡ [] → standing ≡ outcome
  unfolding after_lines
  standing-last standing outcome steps lines none = sym (ap (after_lines standing) none) ∙ lines

  -- what a replay that was run out and closed comes to
  pub comes-to : (config : Configuration) (steps : List Step) (cache : Option ℕ) (limit : ℕ) (captures : List (OpenedCapture S)) (run ended : Running S) (r : Replayed S) → limit ≡ limit_for (length captures) → Starts config steps cache limit captures run → RunsOut left faults run ended → Closes left faults ended r
      → IsSerialReplay left faults config steps cache captures r
  comes-to config steps cache limit captures run ended r limit-is h out closed =
      let origins = h.tracks.origins in
      let goes = out.keeps.goes config steps cache limit captures origins (run_state run.replay) (starts-goes config steps cache limit captures run h) in
      let all = ended-told left faults limit captures ended.tracks goes.dones origins out.ended goes.tracks in
      let standing : goes.standing ≡ lines_outcome config steps = standing-last goes.standing (lines_outcome config steps) (steps_of ended.agenda) goes.lines out.lines in
      let inputs : inputs_of origins goes.dones ≡ map track_inputs all.told =
      sym (inputs-same all.told ∙ ap (λ os. inputs_of os (map (λ (t : reading.Track). t.records) all.told)) all.origins_are ∙ ap (inputs_of origins) all.records) in
      let count : h.count ≡ length all.told =
      let same = lengths limit captures ended.tracks goes.dones origins goes.tracks in
      h.counted ∙ sym same.1 ∙ sym (ap length all.origins_are) ∙ length-map all.told origin_of in
      let held = map held_record_of ended.tracks in
      let rests = map no_records held in
      let heads : map next_record_of rests ≡ held = none_first held out.ended in
      let no_event : events_from ended.taken (steps_of ended.agenda) (in_order rests) ≡ [] =
      events-ended ended.taken (steps_of ended.agenda) rests (none_of_rests left faults rests held heads out.ended) ∙ events-none ended.taken (steps_of ended.agenda) out.lines in
      let whole = goes.comes rests (run_state ended.replay) heads (subst (λ events. ReplaysAll origins (run_state ended.replay) (run_state ended.replay) events) (sym no_event) refl) in
      let over_dones = subst (λ records. ReplaysAll origins (run_state run.replay) (run_state ended.replay) (schedule steps records)) (joined-none left faults limit captures ended.tracks goes.dones origins goes.tracks ∙ sym all.records) whole in
      record {
        replay = record {
          tracks = all.told;
          read = subst (λ n. AllRead left faults n captures r.sources.items all.told r.ends.captures) limit-is
              (subst (λ sources. AllRead left faults limit captures sources all.told r.ends.captures) (sym closed.sources)
              (subst (λ ends. AllRead left faults limit captures (map source_at ended.tracks) all.told ends) (sym closed.ends) all.read));
          legal = subst (λ own. IsLegal config (lines_outcome config steps).accepted own r.record) inputs
              (subst (λ (s : Standing). IsLegal config s.accepted (inputs_of origins goes.dones) r.record) standing (closed.legal config goes.standing.accepted (inputs_of origins goes.dones) goes.stands.operator.accepted goes.stands.stands));
          hits = subst (λ own. TellsHits cache own r.record) inputs (closed.hits cache (inputs_of origins goes.dones) goes.rooms goes.stands.stands);
          answered = closed.answers ∙ goes.stands.operator.answers ∙ ap (λ (s : Standing). s.answers) standing;
        };
        ordered = record {
          first = run_state run.replay;
          begins = record {
            edition = h.opened.edition;
            built = h.opened.built;
            editions = h.opened.editions;
            journal = h.opened.journal ∙ ap (λ n. first_journal n h.opened.edition.facts) count;
            lanes_new = h.lanes ∙ ap (first_lanes cache 1) count;
          };
          last = run_state ended.replay;
          replays = subst (λ os. ReplaysAll os (run_state run.replay) (run_state ended.replay) (schedule steps (map (λ (t : reading.Track). t.records) all.told))) (sym all.origins_are) over_dones;
          ends = record {
            editions = ap (λ (v : RecordValue). v.editions) closed.record_is;
            journal = ap (λ (v : RecordValue). v.journal) closed.record_is;
            dockets = ap (λ (v : RecordValue). v.dockets) closed.record_is;
            tallies = ap (λ (v : RecordValue). v.tallies) closed.record_is;
            trackers = ap (λ (v : RecordValue). v.trackers) closed.record_is;
          };
        };
      }
