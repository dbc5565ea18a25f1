-- What a gate tells of a body that it shuts packets out for.
use Rattle.std.specs.Prelude.{◌≡◌, ℕ, ◌<◌, ◌^◌, true, false, Option, Some, [], ◌∷◌}
use Rattle.fw_base.specs.PortRange.{Ports}
use Rattle.fw_base.specs.Prefix.{Network}
use Rattle.fw_rule.specs.declared.addr_item.AddrItem.TheVariants.{Net}
use Rattle.fw_rule.specs.declared.addr_spec.AddrSpec.{AddrSpec}
use Rattle.fw_rule.specs.declared.body.Body.{Body}
use Rattle.fw_rule.specs.declared.port_list.PortList.{PortList}
use Rattle.ip6_headers.specs.declared.any_ip.AnyIp.{AnyIp}
use Rattle.ip6_headers.specs.Either.{protocol_of}
use Rattle.rule_match.specs.Holds.{has_address, holds_family, holds_ports, holds_protocol}
use Rattle.rule_match.specs.Packet.{V4, source_address_of, destination_address_of}
use Rattle.rule_match.specs.Ports.{source_port, destination_port}

-- the addresses of this prefix alone
abbrev pub only_net : Network → AddrSpec
only_net net = record { negated = false; items = Net net ∷ [] }

-- the ports of this range alone
abbrev pub only_range : Ports → Option PortList
only_range range = Some (record { negated = false; ranges = range ∷ [] })

-- The packet is of the version and the protocol that the body asks for, its ports are of the ranges where
-- the body asks for one range, and its addresses, if they are of IPv4, where it asks for one prefix.
pub record MayHold (body : Body) (packet : AnyIp) : Type 0 where
  pub version : holds_family body.family packet ≡ true
  pub protocol : holds_protocol body.protocol (protocol_of packet) ≡ true
  pub source : (net : Network) (address : ℕ) → body.source ≡ only_net net → source_address_of packet ≡ V4 address → address < 2 ^ 32
      → has_address net address ≡ true
  pub destination : (net : Network) (address : ℕ) → body.destination ≡ only_net net → destination_address_of packet ≡ V4 address → address < 2 ^ 32
      → has_address net address ≡ true
  pub source_ports : (range : Ports) → body.source_ports ≡ only_range range → holds_ports (source_port packet) body.source_ports ≡ true
  pub destination_ports : (range : Ports) → body.destination_ports ≡ only_range range → holds_ports (destination_port packet) body.destination_ports ≡ true
