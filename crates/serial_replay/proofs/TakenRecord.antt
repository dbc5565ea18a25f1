-- The record of the capture that comes first was replayed.
use Rattle.std.proofs.Common.{◌≡◌, ℕ, zero, suc, ◌+◌, ◌<◌, Option, Some, None, List, [], ◌∷◌, ◌++◌, map, length, refl, sym, ap, subst, ◌∙◌, arith, append_assoc}
use Rattle.std.specs.Prelude.{slice_get, slice_set}
use Rattle.std.specs.Option.{option_map}
use Rattle.std.specs.List.{AllByRecursion}
use Rattle.std.proofs.lemmas.List.{map-append, map-set, length-map}
use Rattle.std.proofs.lemmas.Option.{slice_get-map, slice_get_within}
use Rattle.fw_command.specs.WellFormed.{IsStepInRange}
use Rattle.pcap_read.specs.Capture.{link_of}
use Rattle.pcap_read.specs.Reading.{Captured}
use Rattle.capture_tracks.specs.Commands.{after_lines}
use Rattle.serial_replay.specs.Events.{ReplaysAll, ReplaysInput, ReplaysTurn}
use Rattle.serial_replay.specs.ReplayWorld.{run_state, with_input, ReplayStandsFor, ReplaysARecord}
use Rattle.capture_tracks.specs.Reading.{Origin, input_of}
use Rattle.serial_replay.specs.Running.{inputs_of, ports_of, joined_records, with_last, first_capture_of, IsReady, TakesRecord}
use Rattle.capture_tracks.specs.Tracks.{IsTrack, GoesFurther, held_in, held_record_of, room_of}
use Rattle.capture_tracks.proofs.Origins.{origin-open}
use Rattle.serial_replay.specs.Tracks.{AreTracks, GoesFurtherAt, open_of, rooms_of}
use Rattle.capture_tracks.specs.declared.open_track.OpenTrack.{OpenTrack}
use Rattle.capture_tracks.specs.declared.opened.OpenedCapture.{OpenedCapture}
use Rattle.capture_tracks.specs.declared.track.Track.{Track}
use Rattle.capture_tracks.specs.declared.track.Track.TheVariants.{Open, Refused}
use Rattle.serial_replay.specs.declared.running.Running.{Running}
use Rattle.serial_schedule.specs.Agenda.{NoneIsDue}
use Rattle.fw_command.specs.Steps.{all_lines}
use Rattle.serial_schedule.specs.Order.{Turn, first_capture, in_order, moment_of, next_moment, next_record_of}
use Rattle.serial_schedule.specs.Schedule.{events_from, schedule}
use Rattle.serial_schedule.specs.Steps.{steps_of}
use Rattle.serial_schedule.specs.declared.moment.Moment.{Moment}
use Rattle.serial_schedule.proofs.Events.{events-next}
use Rattle.serial_schedule.proofs.Turns.{with_next, heads-with_next, moments-heads, first_capture-there}

-- the lane of the capture meets its input
pub inputs-with_last : (k : ℕ) (r : Captured) (origins : List Origin) (dones : List (List Captured)) (origin : Origin) → slice_get origins k ≡ Some origin
    → inputs_of origins (with_last k r dones) ≡ with_input k (input_of origin.link origin.port r) (inputs_of origins dones)
inputs-with_last k r [] dones origin at = cc
inputs-with_last k r (first ∷ origins) [] origin at = refl
inputs-with_last zero r (first ∷ origins) (done ∷ dones) origin at =
    let same : first ≡ origin = cc in
    ap (λ inputs. inputs ∷ inputs_of origins dones) (map-append (input_of first.link first.port) done (r ∷ []) ∙ ap (λ (o : Origin). map (input_of first.link first.port) done ++ input_of o.link o.port r ∷ []) same)
inputs-with_last (suc k) r (first ∷ origins) (done ∷ dones) origin at = ap (λ inputs. map (input_of first.link first.port) done ∷ inputs) (inputs-with_last k r origins dones origin at)

-- what was replayed and what is to come are the same records before and after
pub joined-with_last : (k : ℕ) (r : Captured) (dones rests : List (List Captured)) → joined_records (with_last k r dones) rests ≡ joined_records dones (with_next k r rests)
joined-with_last k r [] rests = refl
joined-with_last zero r (done ∷ dones) [] = refl
joined-with_last (suc k) r (done ∷ dones) [] = refl
joined-with_last zero r (done ∷ dones) (rest ∷ rests) = ap (λ records. records ∷ joined_records dones rests) (append_assoc done (r ∷ []) rest)
joined-with_last (suc k) r (done ∷ dones) (rest ∷ rests) = ap (λ others. (done ++ rest) ∷ others) (joined-with_last k r dones rests)

module _ {S : Type 0} (left : S → Option (List ℕ)) (faults : S → ℕ) where
  -- the tracks where that at this place went on
  are-further : (limit : ℕ) (captures : List (OpenedCapture S)) (tracks : List (Track S)) (dones : List (List Captured)) (origins : List Origin) (k : ℕ) (before after : Track S) (r : Captured) → slice_get tracks k ≡ Some before → held_record_of before ≡ Some r → GoesFurther left faults before after
      → AreTracks left faults limit captures tracks dones origins → AreTracks left faults limit captures (slice_set tracks k after) (with_last k r dones) origins × (rooms_of (slice_set tracks k after) < rooms_of tracks)
  are-further limit [] [] dones origins k before after r at held goes are = cc
  are-further limit (opened ∷ captures) [] dones origins k before after r at held goes are = cc
  are-further limit [] (track ∷ tracks) dones origins k before after r at held goes are = absurd are
  are-further limit (opened ∷ captures) (track ∷ tracks) [] origins k before after r at held goes are = absurd are
  are-further limit (opened ∷ captures) (track ∷ tracks) (done ∷ dones) [] k before after r at held goes are = absurd are
  are-further limit (opened ∷ captures) (track ∷ tracks) (done ∷ dones) (origin ∷ origins) zero before after r at held goes are =
      let same : track ≡ before = cc in
      let on = goes.goes limit opened done origin r held (subst (λ t. IsTrack left faults limit opened t done origin) same are.0) in
      let room : room_of track ≡ room_of before = ap room_of same in
      ((on.0, on.1, are.2), omega (arith, on.2, room))
  are-further limit (opened ∷ captures) (track ∷ tracks) (done ∷ dones) (origin ∷ origins) (suc k) before after r at held goes are =
      let rest = are-further limit captures tracks dones origins k before after r at held goes are.2 in
      ((are.0, are.1, rest.0), omega (arith, rest.1))

  -- the capture at a place, and where it was taken
  pub track-at : (limit : ℕ) (captures : List (OpenedCapture S)) (tracks : List (Track S)) (dones : List (List Captured)) (origins : List Origin) (k : ℕ) (track : Track S) → slice_get tracks k ≡ Some track → AreTracks left faults limit captures tracks dones origins
      → (origin : Origin) × (slice_get origins k ≡ Some origin) × ((opened : OpenedCapture S) × (done : List Captured) × IsTrack left faults limit opened track done origin)
  track-at limit [] [] dones origins k track at are = cc
  track-at limit (opened ∷ captures) [] dones origins k track at are = cc
  track-at limit [] (first ∷ tracks) dones origins k track at are = absurd are
  track-at limit (opened ∷ captures) (first ∷ tracks) [] origins k track at are = absurd are
  track-at limit (opened ∷ captures) (first ∷ tracks) (done ∷ dones) [] k track at are = absurd are
  track-at limit (opened ∷ captures) (first ∷ tracks) (done ∷ dones) (origin ∷ origins) zero track at are =
      let same : first ≡ track = cc in
      (origin, refl, (opened, done, subst (λ t. IsTrack left faults limit opened t done origin) same are.0))
  track-at limit (opened ∷ captures) (first ∷ tracks) (done ∷ dones) (origin ∷ origins) (suc k) track at are = track-at limit captures tracks dones origins k track at are.2

set-back : {X : Type 0} (xs : List X) (k : ℕ) (x y : X) → slice_get xs k ≡ Some x → slice_set (slice_set xs k y) k x ≡ xs
set-back [] k x y at = refl
set-back (z ∷ xs) zero x y at = let same : x ≡ z = cc in ap (λ first. first ∷ xs) same
set-back (z ∷ xs) (suc k) x y at = ap (λ rest. z ∷ rest) (set-back xs k x y at)

length-kept : {X : Type 0} (xs : List X) (k : ℕ) (x : X) → length (slice_set xs k x) ≡ length xs
length-kept [] k x = refl
length-kept (y ∷ xs) zero x = refl
length-kept (y ∷ xs) (suc k) x = let rest = length-kept xs k x in omega arith

module _ {S : Type 0} where
  -- the capture that comes first holds a record
  pub held-first : (tracks : List (Track S)) (k : ℕ) → first_capture_of tracks ≡ Some k → (track : Track S) × (r : Captured) × (slice_get tracks k ≡ Some track) × (held_record_of track ≡ Some r)
  held-first tracks k first =
      let (moment, there) = first_capture-there (map (option_map moment_of) (map held_record_of tracks)) k first in
      let mapped : option_map (option_map moment_of) (option_map held_record_of (slice_get tracks k)) ≡ Some (Some moment) =
      ap (option_map (option_map moment_of)) (sym (slice_get-map held_record_of tracks k)) ∙ sym (slice_get-map (option_map moment_of) (map held_record_of tracks) k) ∙ there in
      found (slice_get tracks k) refl moment mapped
    where
      holds : (track : Track S) (held : Option Captured) → held_record_of track ≡ held → slice_get tracks k ≡ Some track → (moment : Moment) → Some (option_map moment_of held) ≡ Some (Some moment) → (t : Track S) × (r : Captured) × (slice_get tracks k ≡ Some t) × (held_record_of t ≡ Some r)
      holds track None held at moment is = cc
      holds track (Some r) held at moment is = (track, r, at, held)

      found : (o : Option (Track S)) → slice_get tracks k ≡ o → (moment : Moment) → option_map (option_map moment_of) (option_map held_record_of o) ≡ Some (Some moment) → (t : Track S) × (r : Captured) × (slice_get tracks k ≡ Some t) × (held_record_of t ≡ Some r)
      found None at moment is = cc
      found (Some track) at moment is = holds track (held_record_of track) refl at moment is

  -- a track that is open stands there
  pub open-at : (tracks : List (Track S)) (k : ℕ) (track : OpenTrack S) → Some track ≡ open_of (slice_get tracks k) → slice_get tracks k ≡ Some (Open track)
  open-at tracks k track is = found (slice_get tracks k) refl is
    where
      found : (o : Option (Track S)) → slice_get tracks k ≡ o → Some track ≡ open_of o → slice_get tracks k ≡ Some (Open track)
      found None at is = cc
      found (Some (Open other)) at is = let same : other ≡ track = cc in at ∙ ap (λ t. Some (Open t)) same
      found (Some (Refused source end)) at is = cc

  -- it can't be another
  pub never-closed : (tracks : List (Track S)) (k : ℕ) → first_capture_of tracks ≡ Some k → None ≡ open_of (slice_get tracks k) → ⊥
  never-closed tracks k first is =
      let (track, r, at, held) = held-first tracks k first in
      found track r held (is ∙ ap open_of at)
    where
      found : (track : Track S) (r : Captured) → held_record_of track ≡ Some r → None ≡ open_of (Some track) → ⊥
      found (Open track) r held is = cc
      found (Refused source end) r held is = cc

  -- nor can it hold none
  pub never-empty : (tracks : List (Track S)) (k : ℕ) (track : OpenTrack S) → first_capture_of tracks ≡ Some k → slice_get tracks k ≡ Some (Open track) → None ≡ held_in track → ⊥
  never-empty tracks k track first at none =
      let (other, r, there, held) = held-first tracks k first in
      let same : other ≡ Open track = let e : Some other ≡ Some (Open track) = sym there ∙ at in cc in
      let never : Some r ≡ None = sym held ∙ ap held_record_of same ∙ sym none in
      cc

  module _ (left : S → Option (List ℕ)) (faults : S → ℕ) where
    -- the port of the capture at a place is the one of its track
    pub port-at : (closed : Track S) (limit : ℕ) (captures : List (OpenedCapture S)) (tracks : List (Track S)) (dones : List (List Captured)) (origins : List Origin) (k : ℕ) (track : OpenTrack S) (r : Captured) → slice_get tracks k ≡ Some closed → closed ≡ Open track → held_in track ≡ Some r
        → AreTracks left faults limit captures tracks dones origins → slice_get (ports_of origins) k ≡ Some track.port
    port-at closed limit captures tracks dones origins k track r at opens held are =
        let (origin, origin_at, (opened, done, is)) = track-at left faults limit captures tracks dones origins k closed at are in
        let origin_is = origin-open left faults limit opened track done origin r held (subst (λ t. IsTrack left faults limit opened t done origin) opens is) in
        slice_get-map (λ (o : Origin). o.port) origins k ∙ ap (option_map (λ (o : Origin). o.port)) origin_at ∙ ap (λ (o : Origin). Some o.port) origin_is

    -- the record of the capture that comes first was replayed
    pub takes-record : (old new : Running S) (k : ℕ) (track : OpenTrack S) (r : Captured) → IsReady left faults old → NoneIsDue old.taken (steps_of old.agenda) (steps_of old.agenda) → first_capture_of old.tracks ≡ Some k → slice_get old.tracks k ≡ Some (Open track) → held_in track ≡ Some r
        → ReplaysARecord k track.port (input_of (link_of track.capture) track.port r) old.replay new.replay → GoesFurtherAt left faults k old.tracks new.tracks → steps_of new.agenda ≡ steps_of old.agenda → new.taken ≡ old.taken + 1 → TakesRecord left faults old new
    takes-record old new k track r ready none first at held replays further agenda taken =
        let before_is : further.before ≡ Open track = let e : Some further.before ≡ Some (Open track) = sym further.at ∙ at in cc in
        let before_held : held_record_of further.before ≡ Some r = ap held_record_of before_is ∙ held in
        let t = ready.tracked in
        let on = are-further left faults t.limit t.captures old.tracks t.dones t.origins k further.before further.after r further.at before_held further.goes t.are in
        let fewer : rooms_of new.tracks < rooms_of old.tracks = subst (λ ts. rooms_of ts < rooms_of old.tracks) (sym further.set) on.1 in
        record {
          keeps = record {
            ready = record {
              sound = replays.sound ready.sound;
              formed = subst (λ steps. AllByRecursion IsStepInRange steps) (sym agenda) ready.formed;
              matched = replays.lanes ∙ ready.matched ∙ sym (length-kept old.tracks k further.after) ∙ sym (ap length further.set);
              tracked = record {
                limit = t.limit;
                captures = t.captures;
                dones = with_last k r t.dones;
                origins = t.origins;
                are = subst (λ ts. AreTracks left faults t.limit t.captures ts (with_last k r t.dones) t.origins) (sym further.set) on.0;
              };
              ports = replays.ports (ports_of t.origins) (port-at (Open track) t.limit t.captures old.tracks t.dones t.origins k track r at refl held t.are) ready.ports;
              few = omega (arith, ready.few, fewer, taken);
            };
            goes = λ config steps cache limit captures origins start h.
                let (origin, origin_at, (opened, done, is)) = track-at left faults limit captures old.tracks h.dones origins k (Open track) at h.tracks in
                let origin_is = origin-open left faults limit opened track done origin r held is in
                let input : input_of origin.link origin.port r ≡ input_of (link_of track.capture) track.port r = ap (λ (o : Origin). input_of o.link o.port r) origin_is in
                record {
                  dones = with_last k r h.dones;
                  standing = h.standing;
                  tracks = subst (λ ts. AreTracks left faults limit captures ts (with_last k r h.dones) origins) (sym further.set)
                      (are-further left faults limit captures old.tracks h.dones origins k further.before further.after r further.at before_held further.goes h.tracks).0;
                  stands = subst (λ inputs. ReplayStandsFor config inputs h.standing new.replay) (sym (inputs-with_last k r origins h.dones origin origin_at ∙ ap (λ i. with_input k i (inputs_of origins h.dones)) input))
                      (replays.stands config (inputs_of origins h.dones) h.standing h.stands);
                  rooms = replays.rooms cache h.rooms;
                  lines = ap (λ steps. after_lines h.standing (all_lines steps)) agenda ∙ h.lines;
                  comes = λ rests end fits all.
                      let full = with_next k r rests in
                      let held_at : slice_get (map held_record_of old.tracks) k ≡ Some (Some r) = slice_get-map held_record_of old.tracks k ∙ ap (option_map held_record_of) at ∙ ap Some held in
                      let heads : map next_record_of full ≡ map held_record_of old.tracks =
                      heads-with_next k r rests ∙ ap (λ hs. slice_set hs k (Some r)) (fits ∙ ap (map held_record_of) further.set ∙ map-set held_record_of old.tracks k further.after)
                      ∙ set-back (map held_record_of old.tracks) k (Some r) (held_record_of further.after) held_at in
                      let within : k < length rests =
                      let there : k < length old.tracks = slice_get_within old.tracks k (Open track) at in
                      let lengths : length (map next_record_of rests) ≡ length (map held_record_of new.tracks) = ap length fits in
                      omega (arith, there, lengths, length-map rests next_record_of, length-map new.tracks held_record_of, length-kept old.tracks k further.after, ap length further.set) in
                      let comes_first : first_capture (map next_moment full) ≡ Some k = ap first_capture (moments-heads full) ∙ ap (λ hs. first_capture (map (option_map moment_of) hs)) heads ∙ first in
                      let events = events-next old.taken (steps_of old.agenda) (steps_of old.agenda) k r rests none within comes_first in
                      let all_taken = subst (λ n. ReplaysAll origins (run_state new.replay) end (events_from n (steps_of new.agenda) (in_order rests))) taken all in
                      let all_old = subst (λ steps. ReplaysAll origins (run_state new.replay) end (events_from (old.taken + 1) steps (in_order rests))) agenda all_taken in
                      let turn : Turn = record { capture = k; taken = r } in
                      let own = subst (λ i. ReplaysInput k (run_state old.replay) (run_state new.replay) i) (sym input) replays.replays in
                      let replayed = subst (λ o. ReplaysTurn o (run_state old.replay) (run_state new.replay) turn) (sym origin_at) own in
                      subst (λ captures. ReplaysAll origins start end (schedule steps captures)) (sym (joined-with_last k r h.dones rests))
                      (h.comes full end heads (subst (λ events. ReplaysAll origins (run_state old.replay) end events) (sym events) (run_state new.replay, replayed, all_old)));
                };
          };
          fewer = fewer;
        }
