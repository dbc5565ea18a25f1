-- What the options of a rule's body ask of a packet (ipfw(8), "RULE OPTIONS").
use Rattle.std.specs.Prelude.{ℕ, Bool, false, not, ◌&&◌, ◌||◌, ◌==◌, nat_lt, is_some, Option, Some, None, List, bit_and}
use Rattle.fw_base.specs.declared.port.Port.{Port}
use Rattle.fw_rule.specs.Bits.{has_bit}
use Rattle.fw_rule.specs.declared.test.Test.{Test}
use Rattle.fw_rule.specs.declared.test.Test.TheVariants.{Inward, Outward, Established, Setup, Frag, Recv, Xmit, Via, TcpFlags, IcmpTypes, Icmp6Types, IpOptions, Lookup}
use Rattle.fw_rule.specs.declared.type_set.TypeSet.{TypeSet}
use Rattle.fw_rule.specs.TypeSet as type_set
use Rattle.ip6_headers.specs.declared.any_ip.AnyIp.{AnyIp}
use Rattle.ip6_headers.specs.declared.any_ip.AnyIp.TheVariants.{Four, Six}
use Rattle.ip6_headers.specs.Either.{offset_of, any_tcp_flags_of}
use Rattle.lookup_tables.specs.Tables.{NamedTables}
use Rattle.packet_headers.specs.Options.{has_option}
use Rattle.rule_match.specs.Interfaces.{is_in, is_out, holds_recv, holds_xmit, holds_via}
use Rattle.rule_match.specs.Packet.{icmp_type_of_packet, icmpv6_type_of}
use Rattle.rule_match.specs.Tables.{field_value}

-- SYN, by its bit's number (RFC 9293 section 3.1)
abbrev pub syn : ℕ
syn = 1

-- RST, by its bit's number
abbrev pub rst : ℕ
rst = 2

-- ACK, by its bit's number
abbrev pub ack : ℕ
ack = 4

-- TCP with RST or ACK
abbrev pub is_established : Option ℕ → Bool
is_established None = false
is_established (Some flags) = has_bit flags rst || has_bit flags ack

-- TCP with SYN and no ACK
abbrev pub is_setup : Option ℕ → Bool
is_setup None = false
is_setup (Some flags) = has_bit flags syn && not (has_bit flags ack)

-- TCP whose flags have all bits of the one mask and none of the other
abbrev pub has_flags : ℕ → ℕ → Option ℕ → Bool
has_flags set clear None = false
has_flags set clear (Some flags) = bit_and flags set == set && bit_and flags clear == 0

-- ICMP of a type whose bit the mask has
abbrev pub has_icmp_type : ℕ → Option ℕ → Bool
has_icmp_type types None = false
has_icmp_type types (Some type) = nat_lt type 32 && has_bit types type

-- ICMPv6 of a type of the set
abbrev pub has_icmpv6_type : TypeSet → Option ℕ → Bool
has_icmpv6_type types None = false
has_icmpv6_type types (Some type) = type_set.has_type types type

-- the type of the option `ssrr` (RFC 791 section 3.1)
abbrev pub strict_source_route : ℕ
strict_source_route = 137

-- the type of the option `lsrr`
abbrev pub loose_source_route : ℕ
loose_source_route = 131

-- the type of the option `rr`
abbrev pub record_route : ℕ
record_route = 7

-- the type of the option `ts`
abbrev pub time_stamp : ℕ
time_stamp = 68

-- an option is there where the rule asks for it, and isn't where the rule asks that it not be
abbrev pub agrees : Bool → Bool → Bool → Bool
agrees present absent there = (not present || there) && (not absent || not there)

-- each of the four options agrees with what the rule asks of it
abbrev pub has_options : ℕ → ℕ → List ℕ → Bool
has_options present absent options =
    (agrees (has_bit present 0) (has_bit absent 0) (has_option strict_source_route options)
    && agrees (has_bit present 1) (has_bit absent 1) (has_option loose_source_route options))
    && (agrees (has_bit present 2) (has_bit absent 2) (has_option record_route options)
    && agrees (has_bit present 3) (has_bit absent 3) (has_option time_stamp options))

-- an IPv6 header has no options of IPv4, present or absent
abbrev pub holds_ip_options : ℕ → ℕ → AnyIp → Bool
holds_ip_options present absent (Four packet) = has_options present absent packet.options
holds_ip_options present absent (Six packet) = false

-- the test of an option holds of a packet that passed this port
abbrev pub holds_test : NamedTables → AnyIp → Port → Test → Bool
holds_test tables packet port Inward = is_in port.direction
holds_test tables packet port Outward = is_out port.direction
holds_test tables packet port Established = is_established (any_tcp_flags_of packet)
holds_test tables packet port Setup = is_setup (any_tcp_flags_of packet)
holds_test tables packet port Frag = not (offset_of packet == 0)
holds_test tables packet port (Recv asked) = holds_recv port asked
holds_test tables packet port (Xmit asked) = holds_xmit port asked
holds_test tables packet port (Via asked) = holds_via port asked
holds_test tables packet port (TcpFlags set clear) = has_flags set clear (any_tcp_flags_of packet)
holds_test tables packet port (IcmpTypes types) = has_icmp_type types (icmp_type_of_packet packet)
holds_test tables packet port (Icmp6Types types) = has_icmpv6_type types (icmpv6_type_of packet)
holds_test tables packet port (IpOptions present absent) = holds_ip_options present absent packet
holds_test tables packet port (Lookup field name) = is_some (field_value tables packet field name)
