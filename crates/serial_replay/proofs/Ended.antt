-- All captures have ended: what was read of them.
use Rattle.std.proofs.Common.{◌≡◌, ℕ, Option, None, List, [], ◌∷◌, map, refl, ap, ◌∙◌}
use Rattle.std.specs.List.{AllByRecursion}
use Rattle.std.proofs.lemmas.List.{append-nil}
use Rattle.pcap_read.specs.Reading.{Captured}
use Rattle.capture_tracks.specs.Reading as reading
use Rattle.capture_tracks.specs.Reading.{Origin, origin_of, AllRead, track_inputs}
use Rattle.serial_replay.specs.Running.{inputs_of, joined_records, first_capture_of}
use Rattle.capture_tracks.specs.Tracks.{end_of, held_record_of, source_at}
use Rattle.capture_tracks.proofs.Ended.{told-track}
use Rattle.serial_replay.specs.Tracks.{AreTracks}
use Rattle.capture_tracks.specs.declared.opened.OpenedCapture.{OpenedCapture}
use Rattle.capture_tracks.specs.declared.track.Track.{Track}
use Rattle.serial_schedule.specs.Order.{next_record_of}
use Rattle.serial_schedule.proofs.Turns.{no_records, none_first}

-- what the tracks tell as inputs is what was replayed
pub inputs-same : (told : List reading.Track) → map track_inputs told ≡ inputs_of (map origin_of told) (map (λ (t : reading.Track). t.records) told)
inputs-same [] = refl
inputs-same (track ∷ told) = ap (λ rest. track_inputs track ∷ rest) (inputs-same told)

module _ {S : Type 0} where
  none-held : (tracks : List (Track S)) → map next_record_of (map no_records (map held_record_of tracks)) ≡ map held_record_of tracks → AllByRecursion (λ (t : Track S). held_record_of t ≡ None) tracks
  none-held [] is = tt
  none-held (track ∷ tracks) is =
      let first : held_record_of track ≡ None = cc in
      let rest : map next_record_of (map no_records (map held_record_of tracks)) ≡ map held_record_of tracks = cc in
      (first, none-held tracks rest)

  module _ (left : S → Option (List ℕ)) (faults : S → ℕ) where
    -- what all captures came to
    pub record AllTold (limit : ℕ) (captures : List (OpenedCapture S)) (tracks : List (Track S)) (dones : List (List Captured)) (origins : List Origin) : Type 0 where
      pub told : List reading.Track
      pub read : AllRead left faults limit captures (map source_at tracks) told (map end_of tracks)
      pub origins_are : map origin_of told ≡ origins
      pub records : map (λ (t : reading.Track). t.records) told ≡ dones

    told-all : (limit : ℕ) (captures : List (OpenedCapture S)) (tracks : List (Track S)) (dones : List (List Captured)) (origins : List Origin) → AllByRecursion (λ (t : Track S). held_record_of t ≡ None) tracks → AreTracks left faults limit captures tracks dones origins → AllTold limit captures tracks dones origins
    told-all limit [] [] [] [] none are = record { told = []; read = tt; origins_are = refl; records = refl }
    told-all limit [] [] [] (origin ∷ origins) none are = absurd are
    told-all limit [] [] (done ∷ dones) origins none are = absurd are
    told-all limit [] (track ∷ tracks) dones origins none are = absurd are
    told-all limit (opened ∷ captures) [] dones origins none are = absurd are
    told-all limit (opened ∷ captures) (track ∷ tracks) [] origins none are = absurd are
    told-all limit (opened ∷ captures) (track ∷ tracks) (done ∷ dones) [] none are = absurd are
    told-all limit (opened ∷ captures) (track ∷ tracks) (done ∷ dones) (origin ∷ origins) none are =
        let one = told-track left faults limit opened track done origin none.0 are.1 are.0 in
        let rest = told-all limit captures tracks dones origins none.1 are.2 in
        record {
          told = one.told ∷ rest.told;
          read = (one.port, one.read, rest.read);
          origins_are = ap (λ (o : Origin). o ∷ map origin_of rest.told) one.origin_is ∙ ap (λ os. origin ∷ os) rest.origins_are;
          records = ap (λ (records : List Captured). records ∷ map (λ (t : reading.Track). t.records) rest.told) one.records ∙ ap (λ others. done ∷ others) rest.records;
        }

    -- where none comes first they have ended
    pub ended-told : (limit : ℕ) (captures : List (OpenedCapture S)) (tracks : List (Track S)) (dones : List (List Captured)) (origins : List Origin) → first_capture_of tracks ≡ None → AreTracks left faults limit captures tracks dones origins → AllTold limit captures tracks dones origins
    ended-told limit captures tracks dones origins first are = told-all limit captures tracks dones origins (none-held tracks (none_first (map held_record_of tracks) first)) are

    -- nothing is still to come behind what was replayed
    pub joined-none : (limit : ℕ) (captures : List (OpenedCapture S)) (tracks : List (Track S)) (dones : List (List Captured)) (origins : List Origin) → AreTracks left faults limit captures tracks dones origins → joined_records dones (map no_records (map held_record_of tracks)) ≡ dones
    joined-none limit [] [] [] origins are = refl
    joined-none limit [] [] (done ∷ dones) origins are = absurd are
    joined-none limit [] (track ∷ tracks) dones origins are = absurd are
    joined-none limit (opened ∷ captures) [] dones origins are = absurd are
    joined-none limit (opened ∷ captures) (track ∷ tracks) [] origins are = absurd are
    joined-none limit (opened ∷ captures) (track ∷ tracks) (done ∷ dones) [] are = absurd are
    joined-none limit (opened ∷ captures) (track ∷ tracks) (done ∷ dones) (origin ∷ origins) are =
        ap (λ records. records ∷ joined_records dones (map no_records (map held_record_of tracks))) (append-nil done) ∙ ap (λ others. done ∷ others) (joined-none limit captures tracks dones origins are.2)
