-- The header behind an IPv4 header: TCP (RFC 9293 section 3.1), UDP (RFC 768), ICMP (RFC 792).
use Rattle.std.specs.Prelude.{ℕ, length, Bool, ◌&&◌, ◌||◌, ◌==◌, nat_le, if◌then◌else◌, Option, Some, None}
use Rattle.packet_headers.specs.Octets.{octet, two_octets}
use Rattle.packet_headers.specs.Fields.{Fields}

-- the numbers of the protocols whose headers are read
abbrev pub icmp : ℕ
icmp = 1

-- the number of TCP
abbrev pub tcp : ℕ
tcp = 6

-- the number of UDP
abbrev pub udp : ℕ
udp = 17

-- how many bytes of a protocol's header have to be there; of the other protocols' headers none
abbrev pub header_size : ℕ → ℕ
header_size protocol =
    if protocol == tcp then 20
    else if protocol == udp || protocol == icmp then 8
    else 0

-- the datagram's first fragment, or all of it, with its transport header
abbrev pub has_transport_header : Fields → Bool
has_transport_header f = f.offset == 0 && nat_le (header_size f.protocol) (length f.transport)

-- the source port and the destination port of TCP and UDP
unfoldable pub ports_of : Fields → Option (ℕ × ℕ)
ports_of f =
    if (f.protocol == tcp || f.protocol == udp) && has_transport_header f
    then Some (two_octets f.transport 0, two_octets f.transport 2)
    else None

-- the eight control bits of TCP
unfoldable pub tcp_flags_of : Fields → Option ℕ
tcp_flags_of f = if f.protocol == tcp && has_transport_header f then Some (octet f.transport 13) else None

-- the type of an ICMP message
unfoldable pub icmp_type_of : Fields → Option ℕ
icmp_type_of f = if f.protocol == icmp && has_transport_header f then Some (octet f.transport 0) else None
