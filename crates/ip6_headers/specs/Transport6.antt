-- The header behind an IPv6 packet's extension headers: TCP (RFC 9293 section 3.1), UDP (RFC 768), ICMPv6
-- (RFC 4443 section 2.1).
use Rattle.std.specs.Prelude.{ℕ, length, Bool, ◌&&◌, ◌||◌, ◌==◌, nat_le, if◌then◌else◌, Option, Some, None}
use Rattle.packet_headers.specs.Octets.{octet, two_octets}
use Rattle.packet_headers.specs.Transport.{tcp, udp}
use Rattle.ip6_headers.specs.Fields6.{Fields6}

-- the number of ICMPv6
abbrev pub icmp6 : ℕ
icmp6 = 58

-- how many bytes of a protocol's header have to be there; of the other protocols' headers none
abbrev pub header_size6 : ℕ → ℕ
header_size6 protocol =
    if protocol == tcp then 20
    else if protocol == udp then 8
    else if protocol == icmp6 then 4
    else 0

-- the packet's first fragment, or all of it, with its transport header
abbrev pub has_transport_header6 : Fields6 → Bool
has_transport_header6 f = f.offset == 0 && nat_le (header_size6 f.protocol) (length f.transport)

-- the source port and the destination port of TCP and UDP
unfoldable pub ports6_of : Fields6 → Option (ℕ × ℕ)
ports6_of f =
    if (f.protocol == tcp || f.protocol == udp) && has_transport_header6 f
    then Some (two_octets f.transport 0, two_octets f.transport 2)
    else None

-- the eight control bits of TCP
unfoldable pub tcp_flags6_of : Fields6 → Option ℕ
tcp_flags6_of f = if f.protocol == tcp && has_transport_header6 f then Some (octet f.transport 13) else None

-- the type of an ICMPv6 message
unfoldable pub icmp6_type_of : Fields6 → Option ℕ
icmp6_type_of f = if f.protocol == icmp6 && has_transport_header6 f then Some (octet f.transport 0) else None
