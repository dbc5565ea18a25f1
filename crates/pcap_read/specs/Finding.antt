-- What looking for the next record in a window answers.
use Rattle.std.specs.Prelude.{◌≡◌, ℕ, ◌<◌, ◌≤◌, List, length, take, drop, Option, None, Some, Result, MatchOption, MatchResult}
use Rattle.pcap_read.specs.declared.capture_fault.CaptureFault.{CaptureFault}
use Rattle.pcap_read.specs.declared.format.Format.{Format}
use Rattle.pcap_read.specs.Reading.{next_of, record_of, Took, StopsBefore}

-- so many bytes at the front are the next record
pub record IsNextRecord (limit : ℕ) (format : Format) (given : ℕ) (held : List ℕ) (size : ℕ) : Type 0 where
  pub took : next_of limit format given held ≡ Took (record_of format (take size held)) (drop size held)
  pub header : 16 ≤ size
  pub within : size ≤ length held
  pub most : size ≤ 262160
  pub few : given < limit

-- the bytes behind so many records are the next record, or the reader stops there
abbrev pub Finds : (atEnd failed : Type 0) → ℕ → Format → ℕ → List ℕ → Result (Option ℕ) CaptureFault → Type 0
Finds atEnd failed limit format given held result = MatchResult result
    (λ found. MatchOption found (StopsBefore atEnd failed limit format given held None) (IsNextRecord limit format given held))
    (λ fault. StopsBefore atEnd failed limit format given held (Some fault))
