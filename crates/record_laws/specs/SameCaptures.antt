-- What the captures of two replays have in common: where they were taken, what they hold, and how they ended.
use Rattle.std.specs.Prelude.{◌≡◌, ℕ, false, Option, Some, List, map}
use Rattle.std.specs.List.{list_any}
use Rattle.report_texts.specs.CaptureEnds.{is_unread}
use Rattle.report_texts.specs.declared.capture_end.CaptureEnd.{CaptureEnd}
use Rattle.report_texts.specs.declared.capture_end.CaptureEnd.TheVariants.{Read, Stopped}
use Rattle.capture_tracks.specs.Reading.{Track, origin_of}
use Rattle.capture_tracks.specs.declared.opened.OpenedCapture.{OpenedCapture}

-- The captures are as many, of the same link types, taken at the same ports, and have the same records.
pub record HaveSameRecords (tracks others : List Track) : Type 0 where
  pub origins : map origin_of tracks ≡ map origin_of others
  pub records : map (λ track. track.records) tracks ≡ map (λ track. track.records) others

-- The captures were taken at the same ports, and the same bytes were read of them.
pub record HaveSameBytes (tracks others : List Track) : Type 0 where
  pub ports : map (λ track. track.port) tracks ≡ map (λ track. track.port) others
  pub bytes : map (λ track. track.bytes) tracks ≡ map (λ track. track.bytes) others

module _ {S T : Type 0} (left : S → Option (List ℕ)) (otherLeft : T → Option (List ℕ)) where
  -- The captures were taken at the same ports, and their sources tell the same bytes.
  pub record HaveSameContents (captures : List (OpenedCapture S)) (others : List (OpenedCapture T)) : Type 0 where
    pub contents : List (List ℕ)
    pub ports : map (λ capture. capture.port) captures ≡ map (λ capture. capture.port) others
    pub told : map (λ capture. left capture.source) captures ≡ map Some contents
    pub other_told : map (λ capture. otherLeft capture.source) others ≡ map Some contents

-- no capture was ended by a failing read
abbrev pub HaveNoFailedRead : List CaptureEnd → Type 0
HaveNoFailedRead ends = list_any is_unread ends ≡ false

-- the captures are as many, and the same were ended by a failing read
abbrev pub HaveSameFailedReads : List CaptureEnd → List CaptureEnd → Type 0
HaveSameFailedReads ends others = map is_unread ends ≡ map is_unread others

-- A capture's end as it is printed. Of a fault's end the count of the source's faults isn't printed.
abbrev pub printed_end : CaptureEnd → CaptureEnd
printed_end (Read records) = Read records
printed_end (Stopped at fault count) = Stopped at fault 0
