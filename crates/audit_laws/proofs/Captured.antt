-- What is captured in a file of bytes is in the ranges of its fields.
use Rattle.std.proofs.Common.{◌≡◌, ℕ, ◌+◌, ◌^◌, ◌<◌, ◌≤◌, Bool, true, false, Option, None, Some, List, [], ◌∷◌, ◌++◌, length, map, take, drop, Result, Ok, Err, nat_lt, MatchBool, MatchResult, refl, sym, subst, arith}
use Rattle.std.specs.Int.{w32, from_be_bytes, from_le_bytes}
use Rattle.std.specs.Io.KnownBytes.{Consumes}
use Rattle.std.specs.List.{AllByRecursion}
use Rattle.std.specs.Prelude.{IsSomeAnd}
use Rattle.fw_base.specs.declared.link.Link.{Link}
use Rattle.fw_base.specs.declared.port.Port.{Port}
use Rattle.report_texts.specs.declared.capture_end.CaptureEnd.{CaptureEnd}
use Rattle.fw_world.specs.Inputs.{Input}
use Rattle.ip6_headers.specs.Reading.{read_any}
use Rattle.ip6_headers.specs.declared.any_packet.AnyPacket.{AnyPacket}
use Rattle.ip6_headers.specs.declared.any_packet.AnyPacket.TheVariants.{Ip, Other, Malformed}
use Rattle.pcap_read.specs.Reading.{Captured, Place, Open, InHeader, Closed, EndsAt, HasFront, HasRecords, header_of, number_at, number_of, record_of}
use Rattle.pcap_read.specs.declared.capture_fault.CaptureFault.{CaptureFault}
use Rattle.pcap_read.specs.declared.format.ByteOrder.{ByteOrder}
use Rattle.pcap_read.specs.declared.format.ByteOrder.TheVariants.{Little, Big}
use Rattle.pcap_read.specs.declared.format.Format.{Format}
use Rattle.pcap_read.proofs.Fronts.{taken}
use Rattle.capture_tracks.specs.Reading.{AllRead, IsRead, Track, input_for, input_of, origin_of, track_inputs}
use Rattle.capture_tracks.specs.declared.opened.OpenedCapture.{OpenedCapture}
use Rattle.audit_laws.proofs.Frames.{IsInRange, byte_at, bytes_behind, first_bytes, frames_in_range}
use Rattle.audit_laws.specs.Captures.{AreBytes}
use Rattle.audit_laws.specs.Printable.{IsPrintableInput}

-- ---- numbers

le_fits : (bytes : List ℕ) → AreBytes bytes → from_le_bytes w32 bytes < 2 ^ 32
le_fits bytes all = omega (arith, byte_at bytes 0 all, byte_at bytes 1 all, byte_at bytes 2 all, byte_at bytes 3 all)

be_fits : (bytes : List ℕ) → AreBytes bytes → from_be_bytes w32 bytes < 2 ^ 32
be_fits bytes all = omega (arith, byte_at bytes 0 all, byte_at bytes 1 all, byte_at bytes 2 all, byte_at bytes 3 all)

number_fits : (order : ByteOrder) (bytes : List ℕ) → AreBytes bytes → number_of order w32 bytes < 2 ^ 32
number_fits Little bytes all = le_fits bytes all
number_fits Big bytes all = be_fits bytes all

second_fits : (order : ByteOrder) (bytes : List ℕ) → AreBytes bytes → number_at order w32 0 bytes < 2 ^ 32
unfolding number_at
second_fits order bytes all = number_fits order (take 4 bytes) (first_bytes 4 bytes all)

-- ---- records

-- a record of bytes, at a second of 32 bits
record IsInFile (r : Captured) : Type 0 where
  second : r.second < 2 ^ 32
  bytes : AreBytes r.bytes

-- records of a file, no more than so many
record AreInFile (limit : ℕ) (records : List Captured) : Type 0 where
  few : length records ≤ limit
  each : AllByRecursion IsInFile records

record_in_file : (format : Format) (bytes : List ℕ) → AreBytes bytes → IsInFile (record_of format bytes)
unfolding record_of
record_in_file format bytes all = record { second = second_fits format.order bytes all; bytes = bytes_behind 16 bytes all }

-- records that stand one behind the other
records_in_file : (limit : ℕ) (format : Format) (given : ℕ) (bytes : List ℕ) (records : List Captured) (rest : List ℕ) → given ≤ limit → AreBytes bytes → HasRecords limit format given bytes records rest
    → (given + length records ≤ limit) × AllByRecursion IsInFile records
records_in_file limit format given bytes [] rest low all has = (omega (arith, low), tt)
records_in_file limit format given bytes (r ∷ records) rest low all has =
    let one = taken limit format given bytes r has.0 has.1 in
    let more : AreBytes has.0 = subst AreBytes one.is_rest (bytes_behind _ bytes all) in
    let others = records_in_file limit format (given + 1) has.0 records rest (omega (arith, one.few)) more has.2 in
    (omega (arith, others.0), (subst IsInFile one.is_record (record_in_file format _ (first_bytes _ bytes all)), others.1))

none_in_file : (limit : ℕ) (records : List Captured) → records ≡ [] → AreInFile limit records
none_in_file limit records none = subst (AreInFile limit) (sym none) (record { few = omega arith; each = tt })

front_in_file : (limit : ℕ) (bytes : List ℕ) (records : List Captured) (place : Place) → AreBytes bytes → HasFront limit bytes records place → AreInFile limit records
front_in_file limit bytes records place all front = by_size (nat_lt (length bytes) 24) front
  where
    by_header : (header : Result Format CaptureFault) → MatchResult header (λ format. EndsAt limit format (drop 24 bytes) records place) (λ fault. (records ≡ []) × (place ≡ Closed fault)) → AreInFile limit records
    by_header (Ok format) is =
        let known = records_in_file limit format 0 (drop 24 bytes) records is.0 (omega arith) (bytes_behind 24 bytes all) is.1 in
        record { few = omega (arith, known.0); each = known.1 }
    by_header (Err fault) is = none_in_file limit records is.0

    by_size : (short : Bool)
        → MatchBool short ((records ≡ []) × (place ≡ Open InHeader)) (MatchResult (header_of (take 24 bytes)) (λ format. EndsAt limit format (drop 24 bytes) records place) (λ fault. (records ≡ []) × (place ≡ Closed fault)))
        → AreInFile limit records
    by_size true is = none_in_file limit records is.0
    by_size false is = by_header (header_of (take 24 bytes)) is

-- ---- inputs

input_in_range : (port : Port) (second : ℕ) (frame : AnyPacket) → second < 2 ^ 32 → IsInRange frame → IsPrintableInput (input_for port second frame)
input_in_range port second Other fits is = tt
input_in_range port second (Malformed kind) fits is = is
input_in_range port second (Ip packet) fits is = (fits, is)

inputs_in_range : (link : Link) (port : Port) (records : List Captured) → AllByRecursion IsInFile records → AllByRecursion IsPrintableInput (map (input_of link port) records)
inputs_in_range link port [] all = tt
inputs_in_range link port (r ∷ records) all =
    (input_in_range port r.second (read_any link r.bytes) all.0.second (frames_in_range link r.bytes all.0.bytes), inputs_in_range link port records all.1)

-- the inputs of a capture: no more than so many, and in their ranges
pub record AreGoodInputs (limit : ℕ) (inputs : List Input) : Type 0 where
  pub few : length inputs ≤ limit
  pub each : AllByRecursion IsPrintableInput inputs

as_many : (f : Captured → Input) (records : List Captured) → length (map f records) ≡ length records
as_many f [] = refl
as_many f (r ∷ records) = omega (arith, as_many f records)

-- those that come before others are bytes
front_bytes : (front rest : List ℕ) → AreBytes (front ++ rest) → AreBytes front
front_bytes [] rest all = tt
front_bytes (byte ∷ front) rest all = (all.0, front_bytes front rest all.1)

taken_bytes : (before after : Option (List ℕ)) (taken : List ℕ) → IsSomeAnd before AreBytes → Consumes before after taken → AreBytes taken
taken_bytes None after taken told consumed = absurd told
taken_bytes (Some bytes) None taken told consumed = absurd consumed
taken_bytes (Some bytes) (Some rest) taken told consumed = front_bytes taken rest (subst AreBytes consumed told)

module _ {S : Type 0} (left : S → Option (List ℕ)) (faults : S → ℕ) where
  track_in_range : (limit : ℕ) (source after : S) (track : Track) (end : CaptureEnd) → IsSomeAnd (left source) AreBytes → IsRead left faults limit source after track end → AreGoodInputs limit (track_inputs track)
  track_in_range limit source after track end told read =
      let known = front_in_file limit track.bytes track.records read.stopped.behind.0 (taken_bytes (left source) (left after) track.bytes told read.stopped.taken) read.stopped.behind.1 in
      record {
        few = omega (arith, known.few, as_many (input_of (origin_of track).link track.port) track.records);
        each = inputs_in_range (origin_of track).link track.port track.records known.each;
      }

  -- what was read of captures of bytes is in its ranges, and of each capture an end is known
  pub tracks_in_range : (limit : ℕ) (captures : List (OpenedCapture S)) (sources : List S) (tracks : List Track) (ends : List CaptureEnd) → AllByRecursion (λ capture. IsSomeAnd (left capture.source) AreBytes) captures
      → AllRead left faults limit captures sources tracks ends
      → AllByRecursion (AreGoodInputs limit) (map track_inputs tracks) × (length ends ≡ length (map track_inputs tracks)) × (length (map track_inputs tracks) ≡ length captures)
  tracks_in_range limit [] [] [] [] told all = (tt, refl, refl)
  tracks_in_range limit (opened ∷ captures) (source ∷ sources) (track ∷ tracks) (end ∷ ends) told all =
      let others = tracks_in_range limit captures sources tracks ends told.1 all.2 in
      ((track_in_range limit opened.source source track end told.0 all.1, others.0), omega (arith, others.1), omega (arith, others.2))
  tracks_in_range limit captures sources tracks ends told all = absurd all
