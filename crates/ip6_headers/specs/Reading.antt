-- Reading a captured frame as IPv4 or IPv6 by byte positions: the link header (pcap's link types 0, 1,
-- 101 and 113; IEEE 802.3 and 802.1Q), then the IPv6 header (RFC 8200 section 3) or the IPv4 header.
use Rattle.std.specs.Prelude.{ℕ, ◌+◌, ◌*◌, ◌^◌, List, length, take, drop, not, Bool, ◌||◌, ◌==◌, nat_lt, if◌then◌else◌, Option, Some, None}
use Rattle.fw_base.specs.declared.link.Link.{Link}
use Rattle.fw_base.specs.declared.link.Link.TheVariants.{Null, Ethernet, Raw, Cooked}
use Rattle.packet_headers.specs.Octets.{two_octets, four_octets}
use Rattle.packet_headers.specs.Reading as ipv4
use Rattle.packet_headers.specs.Reading.{version, vlan_type, reading_of_frame}
use Rattle.ip6_headers.specs.declared.any_ip.AnyIp.TheVariants.{Four, Six}
use Rattle.ip6_headers.specs.declared.any_packet.AnyPacket.{AnyPacket}
use Rattle.ip6_headers.specs.declared.any_packet.AnyPacket.TheVariants.{Ip, Other, Malformed}
use Rattle.ip6_headers.specs.Chain.{last_header}
use Rattle.ip6_headers.specs.Fields6.{Fields6}
use Rattle.ip6_headers.specs.Layer.{Layer, layer_at}

-- the type of IPv6 in an Ethernet header
abbrev pub ipv6_type : ℕ
ipv6_type = 0x86dd

-- The address families of IPv6, as the systems that write them number them, in the order of bytes of a
-- packet and in the other.
abbrev pub is_ipv6_family : ℕ → Bool
is_ipv6_family family =
    (family == 24 || (family == 28 || family == 30))
    || (family == 0x1800_0000 || (family == 0x1c00_0000 || family == 0x1e00_0000))

-- a packet behind a link header that gives its type
abbrev pub typed_ipv6 : ℕ → List ℕ → Option (List ℕ)
typed_ipv6 type packet = if type == ipv6_type then Some packet else None

-- The packet behind a link header that stands for IPv6; none where the frame is something else, or ends
-- before.
-- Link 0 has an address family of four bytes, in the order of the machine that captured.
-- Link 1 has the type at byte 12; behind one VLAN tag of four bytes it is at byte 16.
-- Link 101 has no header; a packet that begins with a half-byte of 6 is IPv6.
-- Link 113 has the type at byte 14.
unfoldable pub ipv6_packet : Link → List ℕ → Option (List ℕ)
ipv6_packet Null bytes =
    if nat_lt (length bytes) 4 then None
    else if is_ipv6_family (four_octets bytes 0) then Some (drop 4 bytes)
    else None
ipv6_packet Ethernet bytes =
    if nat_lt (length bytes) 14 then None
    else if not (two_octets bytes 12 == vlan_type) then typed_ipv6 (two_octets bytes 12) (drop 14 bytes)
    else if nat_lt (length bytes) 18 then None
    else typed_ipv6 (two_octets bytes 16) (drop 18 bytes)
ipv6_packet Raw bytes = if version bytes == 6 then Some bytes else None
ipv6_packet Cooked bytes =
    if nat_lt (length bytes) 16 then None
    else typed_ipv6 (two_octets bytes 14) (drop 16 bytes)

-- The length of an IPv6 packet: 40 bytes, and those that the header counts behind them. A count of 0
-- stands for all bytes behind the link header: so segmentation offload leaves it.
abbrev pub total_length6 : List ℕ → ℕ
total_length6 packet = if two_octets packet 4 == 0 then length packet else 40 + two_octets packet 4

-- the number of the eight bytes from a place on
abbrev pub eight_octets : List ℕ → ℕ → ℕ
eight_octets packet place = four_octets packet place * 2 ^ 32 + four_octets packet (place + 4)

-- an address, the number of the 16 bytes from a place on
abbrev pub address_at : List ℕ → ℕ → ℕ
address_at packet place = eight_octets packet place * 2 ^ 64 + eight_octets packet (place + 8)

-- the fields, with what the extension headers lead to
abbrev pub fields_with : List ℕ → Layer → Fields6
fields_with packet layer = record {
  source = address_at packet 8;
  destination = address_at packet 24;
  protocol = layer.protocol;
  total = total_length6 packet;
  offset = layer.offset;
  transport = layer.transport;
}

-- The bytes past the total length are padding, and no header reaches into them.
abbrev pub within_total : List ℕ → List ℕ
within_total packet = take (total_length6 packet) packet

-- what stands behind the last extension header
abbrev pub layer_of : List ℕ → Layer
layer_of bytes = layer_at bytes (last_header bytes)

-- The two faults, in the order of the tests: 2 the packet is shorter than the header; 3 its version
-- isn't 6.
unfoldable pub read_ipv6 : List ℕ → AnyPacket
read_ipv6 packet =
    if nat_lt (length packet) 40 then Malformed 2
    else if not (version packet == 6) then Malformed 3
    else Ip (Six (fields_with packet (layer_of (within_total packet))))

-- what is read without IPv6, as a packet of either version
abbrev pub of_ipv4 : ipv4.Reading → AnyPacket
of_ipv4 (ipv4.Ip fields) = Ip (Four fields)
of_ipv4 ipv4.Other = Other
of_ipv4 (ipv4.Malformed kind) = Malformed kind

-- IPv6 by its link header, else whatever it is without IPv6
abbrev pub read_either : Option (List ℕ) → Link → List ℕ → AnyPacket
read_either (Some packet) link bytes = read_ipv6 packet
read_either None link bytes = of_ipv4 (reading_of_frame link bytes)

-- a captured frame: IPv6, IPv4, malformed or other
unfoldable pub read_any : Link → List ℕ → AnyPacket
read_any link bytes = read_either (ipv6_packet link bytes) link bytes
