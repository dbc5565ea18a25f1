-- What a gate asks of a packet, made once a packet.
use Rattle.std.specs.Prelude.{◌≡◌, ℕ, ◌^◌, ◌<◌, ⊤, Bool, true, false, Option, Some, None}
use Rattle.ip6_headers.specs.declared.any_ip.AnyIp.{AnyIp}
use Rattle.ip6_headers.specs.declared.any_ip.AnyIp.TheVariants.{Four, Six}
use Rattle.ip6_headers.specs.Either.{protocol_of}
use Rattle.rule_match.specs.Packet.{Address, V4, V6, source_address_of, destination_address_of}
use Rattle.rule_match.specs.Ports.{source_port, destination_port}
use Rattle.rule_gates.specs.Words.{address_number, words_of}
use Rattle.rule_gates.specs.declared.gate_key.GateKey.{GateKey}

-- the packet is one of IPv6
abbrev pub is_six : AnyIp → Bool
is_six (Four packet) = false
is_six (Six packet) = true

-- the number of a packet's port; a packet without one has the first number that is no port
abbrev pub port_number : Option ℕ → ℕ
port_number None = 65536
port_number (Some port) = port

-- the key of this packet: the words of its addresses, its ports, its protocol and its version
pub record IsKeyOf (packet : AnyIp) (key : GateKey) : Type 0 where
  pub source : key.source ≡ words_of (address_number (source_address_of packet))
  pub destination : key.destination ≡ words_of (address_number (destination_address_of packet))
  pub source_port : key.source_port ≡ port_number (source_port packet)
  pub destination_port : key.destination_port ≡ port_number (destination_port packet)
  pub protocol : key.protocol ≡ protocol_of packet
  pub version : key.is_six ≡ is_six packet

-- an address of IPv4 has thirty-two bits (RFC 791 section 3.1); of IPv6 only the number is compared
abbrev pub IsAddress : Address → Type 0
IsAddress (V4 address) = address < 2 ^ 32
IsAddress (V6 address) = ⊤

-- both addresses of the packet are addresses of their version, as in every packet that was read
pub record HasAddresses (packet : AnyIp) : Type 0 where
  pub source : IsAddress (source_address_of packet)
  pub destination : IsAddress (destination_address_of packet)
