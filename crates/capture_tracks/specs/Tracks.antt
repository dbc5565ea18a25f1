-- A capture that is being replayed: what was read of it, and which of its records were given.
use Rattle.std.specs.Prelude.{◌≡◌, ℕ, suc, ◌-◌, unwrap_or, ◌<◌, ◌≤◌, ⊤, List, [], ◌∷◌, ◌++◌, IsSome, Option, Some, None, MatchOption}
use Rattle.std.specs.Option.{option_to_list}
use Rattle.report_texts.specs.declared.capture_end.CaptureEnd.{CaptureEnd}
use Rattle.report_texts.specs.declared.capture_end.CaptureEnd.TheVariants.{Read}
use Rattle.pcap_read.specs.declared.capture_fault.OpenFault.{OpenFault}
use Rattle.pcap_read.specs.Capture.{IsReading, IsRefused, current_of, given_of, limit_of, link_of, source_of}
use Rattle.pcap_read.specs.Reading.{Captured}
use Rattle.capture_tracks.specs.Reading.{Origin, origin_of, IsRead}
use Rattle.capture_tracks.specs.declared.open_track.OpenTrack.{OpenTrack}
use Rattle.capture_tracks.specs.declared.opened.OpenedCapture.{OpenedCapture}
use Rattle.capture_tracks.specs.declared.track.Track.{Track}
use Rattle.capture_tracks.specs.declared.track.Track.TheVariants.{Open, Refused}

-- so many while it goes on, and none where it has ended
abbrev pub while_open : Option CaptureEnd → ℕ → ℕ
while_open None count = count
while_open (Some end) count = 0

module _ {S : Type 0} where
  -- the record that a track holds: it was read and isn't replayed yet
  abbrev pub held_in : OpenTrack S → Option Captured
  held_in track = current_of track.capture

  -- the same, of any track: one that is refused holds none
  abbrev pub held_record_of : Track S → Option Captured
  held_record_of (Open track) = held_in track
  held_record_of (Refused source end) = None

  -- how many steps it can go on at most
  abbrev pub steps_left : OpenTrack S → ℕ
  steps_left track = while_open track.end (suc (limit_of track.capture - given_of track.capture))

  -- the same, of any track: one that is refused goes on no more
  abbrev pub room_of : Track S → ℕ
  room_of (Open track) = steps_left track
  room_of (Refused source end) = 0

  -- how a track that is closed ended; one that goes on would end with the records that it gave
  abbrev pub end_of : Track S → CaptureEnd
  end_of (Open track) = unwrap_or track.end (Read track.records)
  end_of (Refused source end) = end

  -- its source
  abbrev pub source_at : Track S → S
  source_at (Open track) = source_of track.capture
  source_at (Refused source end) = source

  module _ (left : S → Option (List ℕ)) (faults : S → ℕ) where
    -- It goes on: these of its records were replayed, and the one that it holds comes behind them.
    pub record GoesOn (limit : ℕ) (opened : OpenedCapture S) (track : OpenTrack S) (done : List Captured) (origin : Origin) : Type 0 where
      pub bytes : List ℕ
      pub reading : IsReading left faults opened.source track.capture bytes (done ++ option_to_list (held_in track))
      pub limited : limit_of track.capture ≡ limit
      pub few : (given_of track.capture ≤ limit) × (limit ≤ 4194304)
      pub counted : track.records ≡ given_of track.capture
      pub origin_is : origin ≡ record { link = link_of track.capture; port = opened.port }

    -- It was read to its end, and these are all of its records.
    pub record IsReadToEnd (limit : ℕ) (opened : OpenedCapture S) (source : S) (end : CaptureEnd) (done : List Captured) (origin : Origin) : Type 0 where
      pub bytes : List ℕ
      pub read : IsRead left faults limit opened.source source (record { port = opened.port; bytes = bytes; records = done }) end
      pub origin_is : origin ≡ origin_of (record { port = opened.port; bytes = bytes; records = done })

    -- these records of that capture were replayed: the track goes on behind them, or it has ended and holds none
    abbrev pub IsOpenTrack : ℕ → OpenedCapture S → OpenTrack S → List Captured → Origin → Type 0
    IsOpenTrack limit opened track done origin = (track.port ≡ opened.port)
        × MatchOption track.end (GoesOn limit opened track done origin) (λ end. IsReadToEnd limit opened (source_of track.capture) end done origin × (held_in track ≡ None))

    -- these records of that capture were replayed, and those behind the one that it holds are still to come
    abbrev pub IsTrack : ℕ → OpenedCapture S → Track S → List Captured → Origin → Type 0
    IsTrack limit opened (Open track) done origin = IsOpenTrack limit opened track done origin
    IsTrack limit opened (Refused source end) done origin = IsReadToEnd limit opened source end done origin

    -- a track that goes on holds a record
    abbrev pub IsSettled : Track S → Type 0
    IsSettled (Open track) = track.end ≡ None → IsSome (held_in track)
    IsSettled (Refused source end) = ⊤

    -- A track went on: the record that it held was replayed.
    pub record StepsOn (old new : OpenTrack S) : Type 0 where
      pub goes : (limit : ℕ) (opened : OpenedCapture S) (done : List Captured) (origin : Origin) → IsOpenTrack limit opened old done origin → IsOpenTrack limit opened new (done ++ option_to_list (held_in old)) origin
      pub settled : new.end ≡ None → IsSome (held_in new)
      pub port : new.port ≡ old.port
      pub fewer : steps_left new < steps_left old

    -- it went on, or had ended before and stays
    abbrev pub StepsOnOrEnded : OpenTrack S → OpenTrack S → Type 0
    StepsOnOrEnded old new = MatchOption old.end (StepsOn old new) (λ end. new ≡ old)

    -- No record of the capture was replayed yet; the track holds the first, if there is one.
    pub record Begins (limit : ℕ) (opened : OpenedCapture S) (track : Track S) : Type 0 where
      pub origin : Origin
      pub begun : IsTrack limit opened track [] origin
      pub settled : IsSettled track
      pub room : room_of track ≤ limit

    -- so begins a track whose header is refused
    abbrev pub BeginsRefused : OpenFault S → Track S → Type 0
    BeginsRefused refused track = (limit : ℕ) (opened : OpenedCapture S) → IsRefused left faults limit opened.source refused → Begins limit opened track

    -- A track that holds a record went on: that record was replayed. One that has ended stays as it is.
    pub record GoesFurther (old new : Track S) : Type 0 where
      pub goes : (limit : ℕ) (opened : OpenedCapture S) (done : List Captured) (origin : Origin) (r : Captured) → held_record_of old ≡ Some r → IsTrack limit opened old done origin
          → IsTrack limit opened new (done ++ r ∷ []) origin × IsSettled new × (room_of new < room_of old)
      pub stays : room_of old ≡ 0 → new ≡ old
