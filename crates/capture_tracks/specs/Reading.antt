-- What is read of a capture: its records as inputs of a lane, and how it ends.
use Rattle.std.specs.Prelude.{◌≡◌, ℕ, ⊤, List, [], ◌∷◌, length, map, take, Option, Some, None, Result, Ok, Err}
use Rattle.fw_base.specs.declared.link.Link.{Link}
use Rattle.fw_base.specs.declared.link.Link.TheVariants.{Raw}
use Rattle.fw_base.specs.declared.port.Port.{Port}
use Rattle.report_texts.specs.declared.capture_end.CaptureEnd.{CaptureEnd}
use Rattle.report_texts.specs.declared.capture_end.CaptureEnd.TheVariants.{Read, Stopped}
use Rattle.fw_world.specs.Inputs.{Input, Other, Malformed, Packet}
use Rattle.ip6_headers.specs.Reading.{read_any}
use Rattle.ip6_headers.specs.declared.any_packet.AnyPacket.{AnyPacket}
use Rattle.ip6_headers.specs.declared.any_packet.AnyPacket.TheVariants as packet
use Rattle.pcap_read.specs.Reading.{Captured, header_of}
use Rattle.pcap_read.specs.Capture.{StopsWith}
use Rattle.pcap_read.specs.declared.capture_fault.CaptureFault.{CaptureFault}
use Rattle.pcap_read.specs.declared.format.Format.{Format}
use Rattle.capture_tracks.specs.declared.opened.OpenedCapture.{OpenedCapture}

-- a frame of a capture that was taken there, as the input of a lane
abbrev pub input_for : Port → ℕ → AnyPacket → Input
input_for port second packet.Other = Other
input_for port second (packet.Malformed kind) = Malformed kind
input_for port second (packet.Ip ip) = Packet ip port second

-- a record of a capture of this link type
abbrev pub input_of : Link → Port → Captured → Input
input_of link port r = input_for port r.second (read_any link r.bytes)

-- the bytes that were taken of a capture, and its records
pub record Track : Type 0 where
  pub port : Port
  pub bytes : List ℕ
  pub records : List Captured

-- the link type that a header tells; where there is no header there is no record either
abbrev pub link_in : Result Format CaptureFault → Link
link_in (Ok format) = format.link
link_in (Err fault) = Raw

-- where a capture was taken, and of which link type it is
pub record Origin : Type 0 where
  pub link : Link
  pub port : Port

-- where a capture was taken, and of which link type its header says it is
abbrev pub origin_of : Track → Origin
origin_of track = record { link = link_in (header_of (take 24 track.bytes)); port = track.port }

-- its records as the inputs of its lane
abbrev pub track_inputs : Track → List Input
track_inputs track = map (input_of (origin_of track).link track.port) track.records

-- what a capture's end tells: the number of its records, or the fault with its record and the source's count
abbrev pub IsEnd : CaptureEnd → List Captured → ℕ → Option CaptureFault → ℕ → Type 0
IsEnd (Read count) records number stop faults = (stop ≡ None) × (count ≡ length records)
IsEnd (Stopped at fault count) records number stop faults = (stop ≡ Some fault) × (at ≡ number) × (count ≡ faults)

module _ {S : Type 0} (left : S → Option (List ℕ)) (faults : S → ℕ) where
  -- A source was read as a capture of at most so many records to the place where they end.
  pub record IsRead (limit : ℕ) (source after : S) (track : Track) (end : CaptureEnd) : Type 0 where
    pub number : ℕ
    pub stop : Option CaptureFault
    pub stopped : StopsWith left faults limit source after track.bytes track.records number stop
    pub told : IsEnd end track.records number stop (faults after)

  -- so was each of these captures, which were taken at these ports
  abbrev pub AllRead : ℕ → List (OpenedCapture S) → List S → List Track → List CaptureEnd → Type 0
  AllRead limit [] [] [] [] = ⊤
  AllRead limit (opened ∷ captures) (after ∷ sources) (track ∷ tracks) (end ∷ ends) =
      (track.port ≡ opened.port) × IsRead limit opened.source after track end × AllRead limit captures sources tracks ends
  AllRead limit captures sources tracks ends = ⊥
