-- Whether a rule's body holds of a packet: its version, its protocol, its source, its destination and
-- every option do (ipfw(8), "RULE BODY").
use Rattle.std.specs.Prelude.{ℕ, ◌/◌, Bool, true, false, not, ◌&&◌, ◌||◌, ◌==◌, if◌then◌else◌, is_some, Option, Some, None, List}
use Rattle.std.specs.List.{list_any, list_all}
use Rattle.fw_base.specs.Prefix.{Network, size_of}
use Rattle.fw_base.specs.Prefix6 as prefix6
use Rattle.fw_base.specs.Prefix6.{Network6}
use Rattle.fw_base.specs.declared.address.Addr.{Addr}
use Rattle.fw_base.specs.declared.port.Port.{Port}
use Rattle.fw_rule.specs.declared.addr_item.AddrItem.{AddrItem}
use Rattle.fw_rule.specs.declared.addr_item.AddrItem.TheVariants.{Any, Me, Net, Net6, InTable, TableValue}
use Rattle.fw_rule.specs.declared.addr_spec.AddrSpec.{AddrSpec}
use Rattle.fw_rule.specs.declared.body.Body.{Body}
use Rattle.fw_rule.specs.declared.body.Family.{Family}
use Rattle.fw_rule.specs.declared.body.Family.TheVariants as family
use Rattle.fw_rule.specs.declared.opt.Opt.{Opt}
use Rattle.fw_rule.specs.declared.port_list.PortList.{PortList}
use Rattle.ip6_headers.specs.declared.any_ip.AnyIp.{AnyIp}
use Rattle.ip6_headers.specs.declared.any_ip.AnyIp.TheVariants.{Four, Six}
use Rattle.ip6_headers.specs.Either.{protocol_of}
use Rattle.lookup_tables.specs.Tables.{NamedTables, table_named}
use Rattle.rule_match.specs.Packet.{Address, V4, V6, source_address_of, destination_address_of}
use Rattle.rule_match.specs.Ports.{source_port, destination_port, is_in_ranges}
use Rattle.rule_match.specs.Tables.{address_value}
use Rattle.rule_match.specs.Tests.{holds_test}

-- a negated item holds exactly where the plain one doesn't
abbrev pub as_signed : Bool → Bool → Bool
as_signed negated holds = if negated then not holds else holds

-- the packet is of the version that the rule asks for, if it asks for one
abbrev pub holds_family : Family → AnyIp → Bool
holds_family family.AnyIp packet = true
holds_family family.Four (Four packet) = true
holds_family family.Four (Six packet) = false
holds_family family.Six (Four packet) = false
holds_family family.Six (Six packet) = true

-- 0 stands for every protocol
abbrev pub holds_protocol : ℕ → ℕ → Bool
holds_protocol asked protocol = asked == 0 || asked == protocol

-- the address's first bits are the prefix's
abbrev pub has_address : Network → ℕ → Bool
has_address net address = address / size_of net.bits == net.address / size_of net.bits

-- the first bits of an address of IPv6 are the prefix's
abbrev pub has_address6 : Network6 → ℕ → Bool
has_address6 net address = address / prefix6.size_of net.bits == net.address / prefix6.size_of net.bits

-- the table answered, and with this value
abbrev pub is_value : ℕ → Option ℕ → Bool
is_value value None = false
is_value value (Some answer) = answer == value

-- an element of a list of addresses holds of an address of IPv4
abbrev pub holds_item4 : NamedTables → List Addr → ℕ → AddrItem → Bool
holds_item4 tables locals address Any = true
holds_item4 tables locals address Me = list_any (λ local. local.0 == address) locals
holds_item4 tables locals address (Net net) = has_address net address
holds_item4 tables locals address (Net6 net) = false
holds_item4 tables locals address (InTable name) = is_some (address_value (table_named tables name) address)
holds_item4 tables locals address (TableValue name value) = is_value value (address_value (table_named tables name) address)

-- an element of a list of addresses holds of an address of IPv6, of which neither the host's own addresses
-- nor tables know one
abbrev pub holds_item6 : ℕ → AddrItem → Bool
holds_item6 address Any = true
holds_item6 address Me = false
holds_item6 address (Net net) = false
holds_item6 address (Net6 net) = has_address6 net address
holds_item6 address (InTable name) = false
holds_item6 address (TableValue name value) = false

-- an element of a list of addresses holds of an address, by the packet's version
abbrev pub holds_item : NamedTables → List Addr → Address → AddrItem → Bool
holds_item tables locals (V4 address) item = holds_item4 tables locals address item
holds_item tables locals (V6 address) item = holds_item6 address item

-- some element holds, or none where the list is negated
abbrev pub holds_addresses : NamedTables → List Addr → Address → AddrSpec → Bool
holds_addresses tables locals address asked = as_signed asked.negated (list_any (holds_item tables locals address) asked.items)

-- the port is one that the rule asks for; a rule that names none asks for every port
abbrev pub holds_ports : Option ℕ → Option PortList → Bool
holds_ports port None = true
holds_ports port (Some asked) = as_signed asked.negated (is_in_ranges port asked.ranges)

-- an option, negated or not, holds of the packet
abbrev pub holds_option : NamedTables → AnyIp → Port → Opt → Bool
holds_option tables packet port option = as_signed option.negated (holds_test tables packet port option.test)

-- the body holds of the packet; its state option is no test
unfoldable pub holds : Body → NamedTables → List Addr → AnyIp → Port → Bool
holds body tables locals packet port =
    holds_family body.family packet
    && (holds_protocol body.protocol (protocol_of packet)
    && (holds_addresses tables locals (source_address_of packet) body.source
    && (holds_ports (source_port packet) body.source_ports
    && (holds_addresses tables locals (destination_address_of packet) body.destination
    && (holds_ports (destination_port packet) body.destination_ports
    && list_all (holds_option tables packet port) body.options)))))
