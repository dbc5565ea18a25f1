-- A load's capture of n records is read as n records, to its end.
use Rattle.std.proofs.Common.{◌≡◌, ℕ, ◌+◌, ◌%◌, ◌≤◌, ◌<◌, ◌^◌, ◌==◌, zero, suc, Bool, true, false, if◌then◌else◌, Ok, List, [], ◌∷◌, ◌++◌, refl, ap, length, arith, length-append}
use Rattle.std.proofs.lemmas.Bool.{le-ltb, lt-leb, ne_eqb}
use Rattle.std.proofs.lemmas.List.{take_at, drop_at}
use Rattle.std.proofs.lemmas.Nat.{from_le_bytes-to_le_bytes_4}
use Rattle.fw_base.specs.declared.link.Link.TheVariants.{Raw}
use Rattle.load_maker.specs.Load as load
use Rattle.load_maker.specs.Packets as packets
use Rattle.pcap_read.specs.Reading.{Captured, Open, AtBoundary, Stands, Took, HasRecords, header_of, header_in, number_at, fraction_of, link_of, captured_length, next_of, record_of}
use Rattle.pcap_read.specs.declared.format.Format.{Format}
use Rattle.pcap_read.specs.declared.format.ByteOrder.TheVariants.{Little}
use Rattle.pcap_read.specs.declared.format.Fraction.TheVariants.{Micros}
use Rattle.load_laws.specs.Laws.{MadeCapturesAreWhole}

-- the format of a load's capture
abbrev raw : Format
raw = record { order = Little; fraction = Micros; link = Raw }

header_read : header_of load.capture_header ≡ Ok raw
unfolding header_of header_in number_at fraction_of link_of
header_read = refl

-- ---- one record

record_length : (second : ℕ) (packet : List ℕ) → length (packets.load_record second packet) ≡ 16 + length packet
unfolding packets.load_record
record_length second packet = omega arith

-- its captured length is read again
length_read : (second : ℕ) (packet rest : List ℕ) → length packet < 2 ^ 32 → captured_length raw (packets.load_record second packet ++ rest) ≡ length packet
unfolding packets.load_record number_at
length_read second packet rest small = from_le_bytes-to_le_bytes_4 (length packet) small

-- the bytes of a record are read as it, and those behind it are left
record_read : (limit given second : ℕ) (packet rest : List ℕ) → given < limit → length packet ≤ 262144
    → next_of limit raw given (packets.load_record second packet ++ rest) ≡ Took (record_of raw (packets.load_record second packet)) rest
unfolding next_of
record_read limit given second packet rest fits short =
    let bytes : List ℕ = packets.load_record second packet ++ rest in
    let long : length bytes ≡ 16 + length packet + length rest = omega (arith, length-append (packets.load_record second packet) rest, record_length second packet) in
    rw (ne_eqb (length bytes) 0 (λ e. omega (arith, e, long)), lt-leb limit given fits, le-ltb (length bytes) 16 (omega (arith, long)))
    (rw (length_read second packet rest (omega (arith, short)))
    (rw (le-ltb 262144 (length packet) short, le-ltb (length bytes) (16 + length packet) (omega (arith, long)))
    (rw (take_at (packets.load_record second packet) rest (16 + length packet) (record_length second packet), drop_at (packets.load_record second packet) rest (16 + length packet) (record_length second packet)) refl)))

-- ---- one packet

tcp_length : (source port destination other flags : ℕ) → length (packets.tcp_packet source port destination other flags) ≡ 40
unfolding packets.tcp_packet
tcp_length source port destination other flags = refl

udp_length : (source port destination other : ℕ) → length (packets.udp_packet source port destination other) ≡ 28
unfolding packets.udp_packet
udp_length source port destination other = refl

echo_length : (source destination : ℕ) → length (packets.echo_packet source destination) ≡ 28
unfolding packets.echo_packet
echo_length source destination = refl

either_short : (b : Bool) (bytes others : List ℕ) → length bytes ≤ 40 → length others ≤ 40 → length (if b then bytes else others) ≤ 40
either_short true bytes others p q = p
either_short false bytes others p q = q

packet_short : (kind host port : ℕ) → length (packets.packet_of kind host port) ≤ 40
packet_short kind host port =
    either_short (kind == 0) _ _ (omega (arith, tcp_length))
    (either_short (kind == 1) _ _ (omega (arith, udp_length)) (either_short (kind == 2) _ _ (omega (arith, tcp_length)) (omega (arith, echo_length))))

-- ---- all records

-- the records of a capture, as they are read
made_records : ℕ → ℕ → ℕ → List Captured
made_records zero number x = []
made_records (suc more) number x =
    record_of raw (load.record_drawn number (load.next_draw x) (load.next_draw (load.next_draw x)) (load.next_draw (load.next_draw (load.next_draw x))))
    ∷ made_records more (number + 1) (load.next_draw (load.next_draw (load.next_draw x)))

made_length : (more number x : ℕ) → length (made_records more number x) ≡ more
unfolding made_records
made_length zero number x = refl
made_length (suc more) number x = ap suc (made_length more (number + 1) (load.next_draw (load.next_draw (load.next_draw x))))

records_read : (limit more number x given : ℕ) → given + more ≤ limit → HasRecords limit raw given (load.records_from more number x) (made_records more number x) []
unfolding load.records_from made_records
records_read limit zero number x given fits = refl
records_read limit (suc more) number x given fits =
    let one : ℕ = load.next_draw x in
    let two : ℕ = load.next_draw one in
    let three : ℕ = load.next_draw two in
    let rest : List ℕ = load.records_from more (number + 1) three in
    let packet : List ℕ = packets.packet_of (load.generator_output one % 4) (load.generator_output two % 200) (load.generator_output three % 1000 + 1024) in (
      rest,
      record_read limit given (load.second_of number) packet rest (omega arith) (omega (arith, packet_short (load.generator_output one % 4) (load.generator_output two % 200) (load.generator_output three % 1000 + 1024))),
      records_read limit more (number + 1) three (given + 1) (omega arith),
    )

at_its_end : (limit given : ℕ) → next_of limit raw given [] ≡ Stands (Open AtBoundary)
unfolding next_of
at_its_end limit given = refl

-- a load's capture is read to its end
pub captures_whole : MadeCapturesAreWhole
unfolding load.load_capture
captures_whole n limit fits =
    let records : List Captured = made_records n 1 n in
    let bytes : List ℕ = load.load_capture n in
    let long : 24 ≤ length bytes = omega arith in
    (records, made_length n 1 n, rw (le-ltb (length bytes) 24 long) (rw header_read ([], records_read limit n 1 n 0 (omega arith), at_its_end limit (length records))))
