-- What reading a header from a source answers.
use Rattle.std.specs.Prelude.{◌≡◌, ℕ, ◌≤◌, List, [], length, take, drop, Option, Some, Result, Ok, MatchResult}
use Rattle.std.specs.Io.KnownBytes.{Consumes, IsAtEnd}
use Rattle.pcap_read.specs.declared.capture_fault.CaptureFault.{CaptureFault}
use Rattle.pcap_read.specs.declared.format.Format.{Format}
use Rattle.pcap_read.specs.Reading.{header_of, StopsBehind}

-- these bytes begin with the header, and the others are held
pub record HasHeader (bytes held : List ℕ) (format : Format) : Type 0 where
  pub whole : 24 ≤ length bytes
  pub header : header_of (take 24 bytes) ≡ Ok format
  pub rest : held ≡ drop 24 bytes

-- some bytes came, and they have a header, or the reader stops there
abbrev pub TakesHeader : (left leftAfter : Option (List ℕ)) (failed : Type 0) → List ℕ → Result Format CaptureFault → Type 0
TakesHeader left leftAfter failed held result = (bytes : List ℕ) × Consumes left leftAfter bytes × MatchResult result
    (HasHeader bytes held)
    (λ fault. (limit : ℕ) → StopsBehind (IsAtEnd leftAfter) failed limit bytes [] 0 (Some fault))
