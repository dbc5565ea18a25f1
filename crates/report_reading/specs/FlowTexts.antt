-- The text of a flow, and the name of flows, read back.
use Rattle.std.specs.Prelude.{ℕ, ◌^◌, ◌≤◌, ◌<◌, ◌≡◌, ◌==◌, ◌||◌, ◌&&◌, Bool, true, nat_le, if◌then◌else◌, Some, None, List, [], ◌∷◌, take, drop, length, codes}
use Rattle.std.specs.List.{list_all, prefix_len}
use Rattle.std.specs.Int.{w32, from_be_bytes}
use Rattle.fw_base.specs.Name.{is_name_byte}
use Rattle.fw_base.specs.declared.address.Addr.{Addr}
use Rattle.packet_headers.specs.declared.flows.Flow.{Flow}
use Rattle.fw_base.specs.Chain.{◌>>=◌, or_else}
use Rattle.report_reading.specs.Parts.{Part, behind, told_by, number_at}

-- ---- what a text of a flow can tell

-- a flow in the ranges of its fields (RFC 791 section 3.1, RFC 9293 section 3.1)
pub record IsFlow (flow : Flow) : Type 0 where
  pub protocol : flow.protocol ≤ 255
  pub source : flow.source.0 < 2 ^ 32
  pub source_port : flow.source_port ≤ 65535
  pub destination : flow.destination.0 < 2 ^ 32
  pub destination_port : flow.destination_port ≤ 65535

-- the name of flows has 1 to 63 letters, digits, `_`, `.` and `-` (ipfw(8), "STATEFUL FIREWALL")
pub record IsNameText (name : List ℕ) : Type 0 where
  pub bytes : list_all is_name_byte name ≡ true
  pub some : 1 ≤ length name
  pub few : length name ≤ 63

-- ---- how it is read

-- the first bytes, and those behind them
abbrev pub cut_at : ℕ → List ℕ → Part (List ℕ)
cut_at count bytes = Some (take count bytes, drop count bytes)

-- the name of flows: all bytes that a name may have, as far as they stand
unfoldable pub name_at : List ℕ → Part (List ℕ)
name_at bytes =
    if nat_le 1 (prefix_len is_name_byte bytes) && nat_le (prefix_len is_name_byte bytes) 63 then cut_at (prefix_len is_name_byte bytes) bytes
    else None

-- four bytes, as numbers with dots between them
unfoldable pub octets_at : List ℕ → Part (List ℕ)
octets_at bytes = do
  first ← number_at 255 bytes
  second_front ← behind (codes ".") first.1
  second ← number_at 255 second_front
  third_front ← behind (codes ".") second.1
  third ← number_at 255 third_front
  fourth_front ← behind (codes ".") third.1
  fourth ← number_at 255 fourth_front
  Some (first.0 ∷ second.0 ∷ third.0 ∷ fourth.0 ∷ [], fourth.1)

-- an address behind a space
unfoldable pub address_at : List ℕ → Part Addr
address_at bytes = do
  front ← behind (codes " ") bytes
  octets ← octets_at front
  Some (record { 0 = from_be_bytes w32 octets.0 }, octets.1)

-- a port behind a space
unfoldable pub port_at : List ℕ → Part ℕ
port_at bytes = behind (codes " ") bytes >>= number_at 65535

-- the protocols that have a name
abbrev pub is_named_protocol : ℕ → Bool
is_named_protocol number = number == 0 || (number == 1 || (number == 6 || number == 17))

-- a protocol that has no name
unfoldable pub plain_protocol : Part ℕ → Part ℕ
plain_protocol None = None
plain_protocol (Some (number, bytes)) = if is_named_protocol number then None else Some (number, bytes)

-- a protocol behind a space, by name where it has one
unfoldable pub protocol_at : List ℕ → Part ℕ
protocol_at bytes =
    or_else (told_by (codes " ip") 0 bytes)
    (or_else (told_by (codes " icmp") 1 bytes)
    (or_else (told_by (codes " tcp") 6 bytes)
    (or_else (told_by (codes " udp") 17 bytes) (behind (codes " ") bytes >>= λ front. plain_protocol (number_at 255 front)))))

-- protocol, source and its port, destination and its port, each behind a space
unfoldable pub flow_at : List ℕ → Part Flow
flow_at bytes = do
  protocol ← protocol_at bytes
  source ← address_at protocol.1
  source_port ← port_at source.1
  destination ← address_at source_port.1
  destination_port ← port_at destination.1
  Some (
    record {
      source = source.0;
      destination = destination.0;
      source_port = source_port.0;
      destination_port = destination_port.0;
      protocol = protocol.0;
    },
    destination_port.1,
  )
