-- What a rule's body asks of a packet of either version.
use Rattle.std.specs.Prelude.{ℕ, Option, None}
use Rattle.ip6_headers.specs.declared.any_ip.AnyIp.{AnyIp}
use Rattle.ip6_headers.specs.declared.any_ip.AnyIp.TheVariants.{Four, Six}
use Rattle.ip6_headers.specs.Transport6.{icmp6_type_of}
use Rattle.packet_headers.specs.Transport as ipv4

-- an address of either version, as its number
pub data Address : Type 0 where
  V4 : ℕ → Address
  V6 : ℕ → Address

-- the source address
abbrev pub source_address_of : AnyIp → Address
source_address_of (Four packet) = V4 packet.source
source_address_of (Six packet) = V6 packet.source

-- the destination address
abbrev pub destination_address_of : AnyIp → Address
destination_address_of (Four packet) = V4 packet.destination
destination_address_of (Six packet) = V6 packet.destination

-- the type of an ICMP message; no IPv6 packet has one, whatever its protocol
abbrev pub icmp_type_of_packet : AnyIp → Option ℕ
icmp_type_of_packet (Four packet) = ipv4.icmp_type_of packet
icmp_type_of_packet (Six packet) = None

-- the type of an ICMPv6 message; no IPv4 packet has one, whatever its protocol
abbrev pub icmpv6_type_of : AnyIp → Option ℕ
icmpv6_type_of (Four packet) = None
icmpv6_type_of (Six packet) = icmp6_type_of packet
