-- What the parts of a gate have to admit.
use Rattle.std.specs.Prelude.{◌≡◌, ℕ, ◌^◌, ◌<◌, ◌≤◌, Bool, true, false, Option, List}
use Rattle.fw_base.specs.PortRange.{Ports}
use Rattle.fw_base.specs.Prefix.{Network}
use Rattle.fw_base.specs.declared.address.Addr.{Addr}
use Rattle.fw_base.specs.declared.port.Port.{Port}
use Rattle.fw_rule.specs.declared.addr_item.AddrItem.{AddrItem}
use Rattle.fw_rule.specs.declared.addr_item.AddrItem.TheVariants.{Net}
use Rattle.fw_rule.specs.declared.addr_spec.AddrSpec.{AddrSpec}
use Rattle.fw_rule.specs.declared.body.Body.{Body}
use Rattle.fw_rule.specs.declared.body.Family.{Family}
use Rattle.fw_rule.specs.declared.body.Family.TheVariants as family
use Rattle.fw_rule.specs.declared.port_list.PortList.{PortList}
use Rattle.ip6_headers.specs.declared.any_ip.AnyIp.{AnyIp}
use Rattle.lookup_tables.specs.Tables.{NamedTables}
use Rattle.rule_match.specs.Holds.{as_signed, has_address, holds, holds_addresses, holds_item, holds_ports}
use Rattle.rule_match.specs.Packet.{Address, V4, V6}
use Rattle.rule_match.specs.Ports.{is_in_ranges}
use Rattle.rule_gates.specs.Gates.{admits, admits_version, is_exact}
use Rattle.rule_gates.specs.Keys.{HasAddresses, IsAddress, IsKeyOf, port_number}
use Rattle.rule_gates.specs.Telling.{MayHold, only_net, only_range}
use Rattle.rule_gates.specs.Told.{has_four}
use Rattle.rule_gates.specs.Within.{is_within}
use Rattle.rule_gates.specs.Words.{address_number, word}
use Rattle.rule_gates.specs.declared.address_gate.AddressGate.{AddressGate}
use Rattle.rule_gates.specs.declared.address_gate.ChosenWord.{ChosenWord}
use Rattle.rule_gates.specs.declared.gate.Gate.{Gate}
use Rattle.rule_gates.specs.declared.interval.Interval.{Interval}
use Rattle.rule_gates.specs.declared.gate_key.GateKey.{GateKey}
use Rattle.rule_gates.specs.declared.gate.PortGate.{PortGate}

-- the chosen word of the address is one of the numbers
abbrev pub HasAddress : ChosenWord → ℕ → Type 0
HasAddress chosen number = is_within chosen.numbers (word chosen.place number) ≡ true

-- the address is one of IPv6
abbrev pub is_six_address : Address → Bool
is_six_address (V4 address) = false
is_six_address (V6 address) = true

-- the address is of that version, and its chosen word is one of the numbers
abbrev pub AdmitsAddress : AddressGate → Address → Type 0
AdmitsAddress gate address = (admits_version gate.family (is_six_address address) ≡ true) × HasAddress gate.word (address_number address)

-- the gate admits each address that the element has
abbrev pub CoversItem : AddrItem → AddressGate → Type 0
CoversItem item gate = (tables : NamedTables) (locals : List Addr) (address : Address)
    → holds_item tables locals address item ≡ true → AdmitsAddress gate address

-- the gate admits each address that the rule asks for
abbrev pub CoversAddresses : AddrSpec → AddressGate → Type 0
CoversAddresses asked gate = (tables : NamedTables) (locals : List Addr) (address : Address)
    → holds_addresses tables locals address asked ≡ true → AdmitsAddress gate address

-- where the gate tells the element exactly, the element has each address that the gate admits
abbrev pub IsExactItem : AddrItem → AddressGate → Type 0
IsExactItem item gate = (tables : NamedTables) (locals : List Addr) (address : Address)
    → gate.is_exact ≡ true → IsAddress address → AdmitsAddress gate address → holds_item tables locals address item ≡ true

-- where the gate tells the addresses exactly, the rule asks for each address that the gate admits
abbrev pub IsExactAddresses : AddrSpec → AddressGate → Type 0
IsExactAddresses asked gate = (tables : NamedTables) (locals : List Addr) (address : Address)
    → gate.is_exact ≡ true → IsAddress address → AdmitsAddress gate address → holds_addresses tables locals address asked ≡ true

-- a port that the list asks for is one of the numbers
abbrev pub CoversList : PortList → Interval → Type 0
CoversList asked numbers = (port : Option ℕ) → port_number port ≤ 65536
    → as_signed asked.negated (is_in_ranges port asked.ranges) ≡ true → is_within numbers (port_number port) ≡ true

-- a port that the rule asks for is one of the numbers
abbrev pub CoversPorts : Option PortList → Interval → Type 0
CoversPorts asked numbers = (port : Option ℕ) → port_number port ≤ 65536
    → holds_ports port asked ≡ true → is_within numbers (port_number port) ≡ true

-- an IPv4 address whose chosen word is one of the numbers is one of the element, where the element is a prefix
abbrev pub TellsItem : AddrItem → ChosenWord → Type 0
TellsItem item chosen = (net : Network) (address : ℕ) → item ≡ Net net → address < 2 ^ 32 → HasAddress chosen address → has_address net address ≡ true

-- an IPv4 address whose chosen word is one of the numbers is one of the list, where the list is one prefix
abbrev pub TellsAddresses : AddrSpec → ChosenWord → Type 0
TellsAddresses asked chosen = (net : Network) (address : ℕ) → asked ≡ only_net net → address < 2 ^ 32 → HasAddress chosen address → has_address net address ≡ true

-- a port that is one of the numbers is one of the list, where the list is one range; the number of a packet
-- without a port is none of them
abbrev pub TellsPorts : Option PortList → Interval → Type 0
TellsPorts asked numbers = (range : Ports) (port : Option ℕ) → asked ≡ only_range range → is_within numbers (port_number port) ≡ true → holds_ports port asked ≡ true

-- where the gate tells the ports exactly, the rule asks for each port that is one of the numbers, and for a
-- packet without a port where its number is one of them
abbrev pub IsExactPorts : Option PortList → PortGate → Type 0
IsExactPorts asked gate = (port : Option ℕ) → gate.is_exact ≡ true → is_within gate.numbers (port_number port) ≡ true → holds_ports port asked ≡ true

-- the gate admits the keys of all packets
abbrev pub IsOpen : Gate → Type 0
IsOpen gate = (packet : AnyIp) (key : GateKey) → IsKeyOf packet key → admits gate key ≡ true

-- the packets whose keys the gate admits are among those that the body may hold of
abbrev pub TellsBody : Body → Gate → Type 0
TellsBody body gate = (packet : AnyIp) (key : GateKey) → IsKeyOf packet key → admits gate key ≡ true → MayHold body packet

-- the gate admits the keys of the packets that the body holds of
abbrev pub IsGateOfBody : Body → Gate → Type 0
IsGateOfBody body gate = (tables : NamedTables) (locals : List Addr) (packet : AnyIp) (port : Port) (key : GateKey)
    → IsKeyOf packet key → holds body tables locals packet port ≡ true → admits gate key ≡ true

-- the second version is every version, or IPv4 where the first version has IPv4
abbrev pub is_beside : Family → Family → Bool
is_beside asked family.AnyIp = true
is_beside asked family.Four = has_four asked
is_beside asked family.Six = false

-- the first version, or the second where the first is every version
abbrev pub narrower : Family → Family → Family
narrower family.AnyIp other = other
narrower family.Four other = family.Four
narrower family.Six other = family.Six

-- where the gate tells all, the body holds of each packet whose key the gate admits
abbrev pub IsExactGate : Body → Gate → Type 0
IsExactGate body gate = (tables : NamedTables) (locals : List Addr) (packet : AnyIp) (port : Port) (key : GateKey)
    → is_exact gate ≡ true → IsKeyOf packet key → HasAddresses packet → admits gate key ≡ true → holds body tables locals packet port ≡ true
