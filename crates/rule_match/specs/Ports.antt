-- The ports of a packet, and the ports that a rule asks for (ipfw(8), "RULE BODY").
use Rattle.std.specs.Prelude.{ℕ, Bool, false, ◌&&◌, nat_le, Option, Some, None, List}
use Rattle.std.specs.List.{list_any}
use Rattle.std.specs.Option.{option_map}
use Rattle.fw_base.specs.PortRange.{Ports}
use Rattle.ip6_headers.specs.declared.any_ip.AnyIp.{AnyIp}
use Rattle.ip6_headers.specs.Either.{any_ports_of}

-- the source port of TCP or UDP with its header; no other packet has one
abbrev pub source_port : AnyIp → Option ℕ
source_port packet = option_map (λ ports. ports.0) (any_ports_of packet)

-- the destination port, where there is one
abbrev pub destination_port : AnyIp → Option ℕ
destination_port packet = option_map (λ ports. ports.1) (any_ports_of packet)

-- the port is in the range, its ends included
abbrev pub is_in_range : ℕ → Ports → Bool
is_in_range port range = nat_le range.low port && nat_le port range.high

-- the port is in some range; a packet without one is in none
abbrev pub is_in_ranges : Option ℕ → List Ports → Bool
is_in_ranges None ranges = false
is_in_ranges (Some port) ranges = list_any (is_in_range port) ranges
