-- The tracks of all captures.
use Rattle.std.proofs.Common.{◌≡◌, ℕ, zero, suc, ◌+◌, ◌*◌, ◌<◌, Option, List, [], ◌∷◌, ◌++◌, map, length, refl, sym, ap, ◌∙◌, arith, length-append, get_or}
use Rattle.std.specs.Prelude.{slice_set}
use Rattle.std.specs.Option.{option_map}
use Rattle.std.proofs.lemmas.Option.{slice_get_read}
use Rattle.std.proofs.lemmas.List.{map-append}
use Rattle.serial_schedule.specs.Order.{moment_of}
use Rattle.serial_schedule.specs.declared.moment.Moment.{Moment}
use Rattle.capture_tracks.specs.Reading.{Origin}
use Rattle.capture_tracks.specs.Tracks.{Begins, GoesFurther, room_of, held_record_of}
use Rattle.serial_replay.specs.Tracks.{BeginAll, GoesFurtherAt, AreTracks, rooms_of}
use Rattle.capture_tracks.specs.declared.opened.OpenedCapture.{OpenedCapture}
use Rattle.capture_tracks.specs.declared.track.Track.{Track}

-- a list, each element as it is
pub map-itself : {X : Type 0} (xs : List X) → map (λ x. x) xs ≡ xs
map-itself [] = refl
map-itself (x ∷ xs) = ap (λ rest. x ∷ rest) (map-itself xs)

-- the moments of the records that are held, with one track more
pub moments-push : {S : Type 0} (tracks : List (Track S)) (track : Track S) (moments pushed : List (Option Moment)) {moment : Option Moment} → moments ≡ map (option_map moment_of) (map held_record_of tracks) → moment ≡ option_map moment_of (held_record_of track)
    → pushed ≡ moments ++ moment ∷ [] → pushed ≡ map (option_map moment_of) (map held_record_of (tracks ++ track ∷ []))
moments-push tracks track moments pushed {moment} is one e =
    e ∙ ap (λ ms. ms ++ moment ∷ []) is ∙ ap (λ m. map (option_map moment_of) (map held_record_of tracks) ++ m ∷ []) one
    ∙ sym (map-append (option_map moment_of) (map held_record_of tracks) (held_record_of track ∷ []))
    ∙ ap (map (option_map moment_of)) (sym (map-append held_record_of tracks (track ∷ [])))

map-set : {X Y : Type 0} (f : X → Y) (xs : List X) (k : ℕ) (x : X) → map f (slice_set xs k x) ≡ slice_set (map f xs) k (f x)
map-set f [] k x = refl
map-set f (y ∷ xs) zero x = refl
map-set f (y ∷ xs) (suc k) x = ap (λ rest. f y ∷ rest) (map-set f xs k x)

-- the moments where the track at this place is another
pub moments-set : {S : Type 0} (tracks : List (Track S)) (moments : List (Option Moment)) (k : ℕ) (track : Track S) (moment : Option Moment) → moments ≡ map (option_map moment_of) (map held_record_of tracks) → moment ≡ option_map moment_of (held_record_of track)
    → slice_set moments k moment ≡ map (option_map moment_of) (map held_record_of (slice_set tracks k track))
moments-set tracks moments k track moment is one =
    ap (λ ms. slice_set ms k moment) is ∙ ap (slice_set (map (option_map moment_of) (map held_record_of tracks)) k) one
    ∙ sym (map-set (option_map moment_of) (map held_record_of tracks) k (held_record_of track))
    ∙ ap (map (option_map moment_of)) (sym (map-set held_record_of tracks k track))

module _ {S : Type 0} (left : S → Option (List ℕ)) (faults : S → ℕ) where
  are-push : (limit : ℕ) (captures : List (OpenedCapture S)) (tracks : List (Track S)) (origins : List Origin) (opened : OpenedCapture S) (track : Track S) (begins : Begins left faults limit opened track)
      → AreTracks left faults limit captures tracks (map (λ (track : Track S). []) tracks) origins
      → AreTracks left faults limit (captures ++ opened ∷ []) (tracks ++ track ∷ []) (map (λ (track : Track S). []) (tracks ++ track ∷ [])) (origins ++ begins.origin ∷ [])
  are-push limit [] [] [] opened track begins are = (begins.begun, begins.settled, tt)
  are-push limit [] [] (origin ∷ origins) opened track begins are = absurd are
  are-push limit [] (first ∷ tracks) origins opened track begins are = absurd are
  are-push limit (c ∷ captures) [] origins opened track begins are = absurd are
  are-push limit (c ∷ captures) (first ∷ tracks) [] opened track begins are = absurd are
  are-push limit (c ∷ captures) (first ∷ tracks) (origin ∷ origins) opened track begins are = (are.0, are.1, are-push limit captures tracks origins opened track begins are.2)

  rooms-push : (tracks : List (Track S)) (track : Track S) → rooms_of (tracks ++ track ∷ []) ≡ rooms_of tracks + room_of track
  rooms-push [] track = omega arith
  rooms-push (first ∷ tracks) track = let rest = rooms-push tracks track in omega arith

  -- one capture more is opened
  pub begin-push : (limit : ℕ) (captures : List (OpenedCapture S)) (tracks : List (Track S)) (opened : OpenedCapture S) (track : Track S) → BeginAll left faults limit captures tracks → Begins left faults limit opened track
      → BeginAll left faults limit (captures ++ opened ∷ []) (tracks ++ track ∷ [])
  begin-push limit captures tracks opened track h begins = record {
    origins = h.origins ++ begins.origin ∷ [];
    begun = are-push limit captures tracks h.origins opened track begins h.begun;
    room =
        let sums = rooms-push tracks track in
        let longer = length-append tracks (track ∷ []) in
        let product : limit * length (tracks ++ track ∷ []) ≡ limit * length tracks + limit = ap (λ n. limit * n) longer ∙ omega arith in
        omega (arith, sums, product, h.room, begins.room);
  }

  -- where there are no captures there are no tracks
  pub begin-none : (limit : ℕ) → BeginAll left faults limit [] []
  begin-none limit = record { origins = []; begun = tt; room = omega arith }

  -- of the tracks the one at this place went on, and the others stay
  pub further-at : (old new : List (Track S)) (place : ℕ) (before after : Track S) → place < length old → before ≡ get_or old place before → new ≡ slice_set old place after → GoesFurther left faults before after → GoesFurtherAt left faults place old new
  further-at old new place before after within is set goes = record { before = before; after = after; at = slice_get_read old (length old) place before refl within is; set = set; goes = goes }
