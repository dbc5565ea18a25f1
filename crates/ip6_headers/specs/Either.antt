-- What an IPv4 packet and an IPv6 packet have in common.
use Rattle.std.specs.Prelude.{ℕ, Option}
use Rattle.packet_headers.specs.Transport.{ports_of, tcp_flags_of}
use Rattle.ip6_headers.specs.declared.any_ip.AnyIp.{AnyIp}
use Rattle.ip6_headers.specs.declared.any_ip.AnyIp.TheVariants.{Four, Six}
use Rattle.ip6_headers.specs.Transport6.{ports6_of, tcp_flags6_of}

-- the protocol of the header behind IP's
abbrev pub protocol_of : AnyIp → ℕ
protocol_of (Four f) = f.protocol
protocol_of (Six f) = f.protocol

-- how many bytes the packet has, with its IP header
abbrev pub total_of : AnyIp → ℕ
total_of (Four f) = f.total
total_of (Six f) = f.total

-- a fragment's offset, in units of 8 bytes
abbrev pub offset_of : AnyIp → ℕ
offset_of (Four f) = f.offset
offset_of (Six f) = f.offset

-- source and destination port, where TCP or UDP is there
abbrev pub any_ports_of : AnyIp → Option (ℕ × ℕ)
any_ports_of (Four f) = ports_of f
any_ports_of (Six f) = ports6_of f

-- TCP's flags, where its header is there
abbrev pub any_tcp_flags_of : AnyIp → Option ℕ
any_tcp_flags_of (Four f) = tcp_flags_of f
any_tcp_flags_of (Six f) = tcp_flags6_of f
