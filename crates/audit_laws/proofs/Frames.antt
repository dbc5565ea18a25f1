-- What is read of a frame of bytes is in the ranges of its fields.
use Rattle.std.proofs.Common.{ℕ, zero, suc, ◌+◌, ◌-◌, ◌^◌, ◌<◌, ◌≤◌, Bool, true, false, ◌||◌, ◌&&◌, not, if◌then◌else◌, ◌==◌, nat_lt, Option, Some, None, IfSome, unwrap_or, List, [], ◌∷◌, drop, take, length, min, arith}
use Rattle.fw_base.specs.declared.link.Link.{Link}
use Rattle.fw_base.specs.declared.link.Link.TheVariants.{Null, Ethernet, Raw, Cooked}
use Rattle.packet_headers.specs.Flows.{flow_of}
use Rattle.packet_headers.specs.Octets.{octet, two_octets, four_octets}
use Rattle.packet_headers.specs.Reading as ipv4
use Rattle.packet_headers.specs.Reading.{fields, header_length, header_words, ipv4_type, read_ipv4, read_typed, reading_of_frame, total_length, version, vlan_type}
use Rattle.packet_headers.specs.Transport.{has_transport_header, ports_of, tcp, udp}
use Rattle.ip6_headers.specs.Reading.{ipv6_packet, of_ipv4, read_any, read_either, read_ipv6}
use Rattle.ip6_headers.specs.declared.any_packet.AnyPacket.{AnyPacket}
use Rattle.ip6_headers.specs.declared.any_packet.AnyPacket.TheVariants.{Ip, Other, Malformed}
use Rattle.eval_engine.specs.Encounter.{any_flow_of}
use Rattle.report_reading.specs.FlowTexts.{IsFlow}
use Rattle.audit_laws.specs.Captures.{AreBytes}

-- what holds of both branches holds of the one that is chosen
pub of_either : {X : Type 0} (b : Bool) (x y : X) (P : X → Type 0) → P x → P y → P (if b then x else y)
of_either true x y P p q = p
of_either false x y P p q = q

-- ---- bytes

-- bytes behind the first ones are bytes
pub bytes_behind : (count : ℕ) (bytes : List ℕ) → AreBytes bytes → AreBytes (drop count bytes)
bytes_behind zero bytes all = all
bytes_behind (suc count) [] all = tt
bytes_behind (suc count) (byte ∷ bytes) all = bytes_behind count bytes all.1

-- the first of them are
pub first_bytes : (count : ℕ) (bytes : List ℕ) → AreBytes bytes → AreBytes (take count bytes)
first_bytes zero bytes all = tt
first_bytes (suc count) [] all = tt
first_bytes (suc count) (byte ∷ bytes) all = (all.0, first_bytes count bytes all.1)

-- a byte at a place, 0 past the end, is below 256
pub byte_at : (bytes : List ℕ) (place : ℕ) → AreBytes bytes → octet bytes place < 256
byte_at [] place all = omega arith
byte_at (byte ∷ bytes) zero all = all.0
byte_at (byte ∷ bytes) (suc place) all = byte_at bytes place all.1

two_at : (bytes : List ℕ) (place : ℕ) → AreBytes bytes → two_octets bytes place < 65536
two_at bytes place all = omega (arith, byte_at bytes place all, byte_at bytes (place + 1) all)

four_at : (bytes : List ℕ) (place : ℕ) → AreBytes bytes → four_octets bytes place < 2 ^ 32
four_at bytes place all = omega (arith, two_at bytes place all, two_at bytes (place + 2) all)

-- ---- IPv4

abbrev IsGood : ipv4.Reading → Type 0
IsGood (ipv4.Ip f) = IfSome (flow_of f) IsFlow
IsGood ipv4.Other = Unit {0}
IsGood (ipv4.Malformed kind) = (1 ≤ kind) × (kind ≤ 5)

ports_fit : (b : Bool) (first second : ℕ) → first < 65536 → second < 65536
    → (let ports : ℕ × ℕ = unwrap_or (let o : Option (ℕ × ℕ) = if b then Some (first, second) else None in o) (0, 0) in (ports.0 ≤ 65535) × (ports.1 ≤ 65535))
ports_fit true first second low high = (omega (arith, low), omega (arith, high))
ports_fit false first second low high = (omega arith, omega arith)

flow_fits : (packet : List ℕ) → AreBytes packet → IfSome (flow_of (fields packet)) IsFlow
unfolding flow_of ports_of
flow_fits packet all =
    let transport = first_bytes (min (total_length packet) (length packet) - header_length packet) (drop (header_length packet) packet) (bytes_behind (header_length packet) packet all) in
    let ports = ports_fit ((octet packet 9 == tcp || octet packet 9 == udp) && has_transport_header (fields packet)) (two_octets (fields packet).transport 0) (two_octets (fields packet).transport 2)
    (two_at (fields packet).transport 0 transport) (two_at (fields packet).transport 2 transport) in
    of_either (has_transport_header (fields packet)) _ None (λ o. IfSome o IsFlow)
    (record {
      protocol = omega (arith, byte_at packet 9 all);
      source = four_at packet 12 all;
      source_port = ports.0;
      destination = four_at packet 16 all;
      destination_port = ports.1;
    })
    tt

good_ipv4 : (packet : List ℕ) → AreBytes packet → IsGood (read_ipv4 packet)
unfolding read_ipv4
good_ipv4 packet all =
    of_either (nat_lt (length packet) 20) _ _ IsGood (omega arith, omega arith)
    (of_either (not (version packet == 4)) _ _ IsGood (omega arith, omega arith)
    (of_either (nat_lt (header_words packet) 5) _ _ IsGood (omega arith, omega arith)
    (of_either (nat_lt (length packet) (header_length packet)) _ _ IsGood (omega arith, omega arith)
    (of_either (nat_lt (total_length packet) (header_length packet)) _ _ IsGood (omega arith, omega arith) (flow_fits packet all)))))

good_typed : (type : ℕ) (packet : List ℕ) → AreBytes packet → IsGood (read_typed type packet)
unfolding read_typed
good_typed type packet all = of_either (type == ipv4_type) _ _ IsGood (good_ipv4 packet all) tt

good_frame : (link : Link) (bytes : List ℕ) → AreBytes bytes → IsGood (reading_of_frame link bytes)
unfolding reading_of_frame
good_frame Null bytes all =
    of_either (nat_lt (length bytes) 4) _ _ IsGood (omega arith, omega arith)
    (of_either (four_octets bytes 0 == 2 || four_octets bytes 0 == 0x0200_0000) _ _ IsGood (good_ipv4 (drop 4 bytes) (bytes_behind 4 bytes all)) tt)
good_frame Ethernet bytes all =
    of_either (nat_lt (length bytes) 14) _ _ IsGood (omega arith, omega arith)
    (of_either (not (two_octets bytes 12 == vlan_type)) _ _ IsGood (good_typed (two_octets bytes 12) (drop 14 bytes) (bytes_behind 14 bytes all))
    (of_either (nat_lt (length bytes) 18) _ _ IsGood (omega arith, omega arith) (good_typed (two_octets bytes 16) (drop 18 bytes) (bytes_behind 18 bytes all))))
good_frame Raw bytes all = of_either (version bytes == 6) _ _ IsGood tt (good_ipv4 bytes all)
good_frame Cooked bytes all =
    of_either (nat_lt (length bytes) 16) _ _ IsGood (omega arith, omega arith) (good_typed (two_octets bytes 14) (drop 16 bytes) (bytes_behind 16 bytes all))

-- ---- either version

-- a frame in the ranges of its fields
abbrev pub IsInRange : AnyPacket → Type 0
IsInRange Other = Unit {0}
IsInRange (Malformed kind) = (1 ≤ kind) × (kind ≤ 5)
IsInRange (Ip packet) = IfSome (any_flow_of packet) IsFlow

good_ipv6 : (packet : List ℕ) → IsInRange (read_ipv6 packet)
unfolding read_ipv6
good_ipv6 packet =
    of_either (nat_lt (length packet) 40) _ _ IsInRange (omega arith, omega arith)
    (of_either (not (version packet == 6)) _ _ IsInRange (omega arith, omega arith) tt)

as_any : (r : ipv4.Reading) → IsGood r → IsInRange (of_ipv4 r)
as_any (ipv4.Ip f) good = good
as_any ipv4.Other good = tt
as_any (ipv4.Malformed kind) good = good

either_good : (packet : Option (List ℕ)) (link : Link) (bytes : List ℕ) → AreBytes bytes → IsInRange (read_either packet link bytes)
either_good (Some packet) link bytes all = good_ipv6 packet
either_good None link bytes all = as_any (reading_of_frame link bytes) (good_frame link bytes all)

-- what is read of bytes is in its ranges
pub frames_in_range : (link : Link) (bytes : List ℕ) → AreBytes bytes → IsInRange (read_any link bytes)
unfolding read_any
frames_in_range link bytes all = either_good (ipv6_packet link bytes) link bytes all
