-- The captures that are being replayed, each with its track.
use Rattle.std.specs.Prelude.{◌≡◌, ℕ, ◌+◌, ◌*◌, ◌≤◌, ⊤, length, map, slice_get, slice_set, List, [], ◌∷◌, Option, Some, None}
use Rattle.pcap_read.specs.Reading.{Captured}
use Rattle.capture_tracks.specs.Reading.{Origin}
use Rattle.capture_tracks.specs.Tracks.{IsTrack, IsSettled, GoesFurther, room_of}
use Rattle.capture_tracks.specs.declared.open_track.OpenTrack.{OpenTrack}
use Rattle.capture_tracks.specs.declared.opened.OpenedCapture.{OpenedCapture}
use Rattle.capture_tracks.specs.declared.track.Track.{Track}
use Rattle.capture_tracks.specs.declared.track.Track.TheVariants.{Open, Refused}

module _ {S : Type 0} where
  -- a track that isn't refused
  abbrev pub open_of : Option (Track S) → Option (OpenTrack S)
  open_of None = None
  open_of (Some (Open track)) = Some track
  open_of (Some (Refused source end)) = None

  -- how many steps all tracks together can go on at most
  abbrev pub rooms_of : List (Track S) → ℕ
  rooms_of [] = 0
  rooms_of (track ∷ tracks) = room_of track + rooms_of tracks

  module _ (left : S → Option (List ℕ)) (faults : S → ℕ) where
    -- each of these captures has its track, with the records that were replayed
    abbrev pub AreTracks : ℕ → List (OpenedCapture S) → List (Track S) → List (List Captured) → List Origin → Type 0
    AreTracks limit [] [] [] [] = ⊤
    AreTracks limit (opened ∷ captures) (track ∷ tracks) (done ∷ dones) (origin ∷ origins) =
        IsTrack left faults limit opened track done origin × IsSettled left faults track × AreTracks limit captures tracks dones origins
    AreTracks limit captures tracks dones origins = ⊥

    -- no record of any of these captures was replayed yet
    pub record BeginAll (limit : ℕ) (captures : List (OpenedCapture S)) (tracks : List (Track S)) : Type 0 where
      pub origins : List Origin
      pub begun : AreTracks limit captures tracks (map (λ (track : Track S). []) tracks) origins
      pub room : rooms_of tracks ≤ limit * length tracks

    -- the track at this place, which held a record, went on
    pub record GoesFurtherAt (place : ℕ) (old new : List (Track S)) : Type 0 where
      pub before : Track S
      pub after : Track S
      pub at : slice_get old place ≡ Some before
      pub set : new ≡ slice_set old place after
      pub goes : GoesFurther left faults before after
