-- Gates: what can be told of a rule's body (ipfw(8), "RULE BODY") by few comparisons of numbers.
use Rattle.std.specs.Prelude.{◌≡◌, ⊤, Bool, true, false, not, ◌&&◌, ◌||◌, Option, Some, None, List, [], ◌∷◌, slice_index}
use Rattle.fw_base.specs.declared.address.Addr.{Addr}
use Rattle.fw_base.specs.declared.port.Port.{Port}
use Rattle.fw_rule.specs.declared.body.Body.{Body}
use Rattle.fw_rule.specs.declared.body.Family.{Family}
use Rattle.fw_rule.specs.declared.body.Family.TheVariants as family
use Rattle.fw_rule.specs.declared.rule.Rule.{Rule}
use Rattle.ip6_headers.specs.declared.any_ip.AnyIp.{AnyIp}
use Rattle.lookup_tables.specs.Tables.{NamedTables}
use Rattle.rule_match.specs.Holds.{holds, holds_protocol}
use Rattle.rule_gates.specs.Keys.{HasAddresses, IsKeyOf}
use Rattle.rule_gates.specs.Stateful.{looks_up}
use Rattle.rule_gates.specs.Telling.{MayHold}
use Rattle.rule_gates.specs.Told.{is_told}
use Rattle.rule_gates.specs.Within.{is_within}
use Rattle.rule_gates.specs.declared.gate.Gate.{Gate}
use Rattle.rule_gates.specs.declared.gate_key.GateKey.{GateKey}

-- the packet is of the version that the rule asks for, if it asks for one
abbrev pub admits_version : Family → Bool → Bool
admits_version family.AnyIp is_six = true
admits_version family.Four is_six = not is_six
admits_version family.Six is_six = is_six

-- one word of each address, each port, the protocol and the version are among those of the gate
unfoldable pub admits : Gate → GateKey → Bool
admits gate key =
    is_within gate.source (slice_index key.source gate.source_word)
    && (is_within gate.destination (slice_index key.destination gate.destination_word)
    && (is_within gate.destination_ports key.destination_port
    && (holds_protocol gate.protocol key.protocol
    && (is_within gate.source_ports key.source_port
    && admits_version gate.family key.is_six))))

-- the gate tells all of its rule
abbrev pub is_exact : Gate → Bool
is_exact gate = gate.is_exact

-- the body holds; a rule without one has nothing to hold
abbrev pub is_body_held : Option Body → NamedTables → List Addr → AnyIp → Port → Bool
is_body_held None tables locals packet port = false
is_body_held (Some body) tables locals packet port = holds body tables locals packet port

-- An evaluation has to look at the rule: it looks the packet up, or its body holds of it.
abbrev pub concerns : Rule → NamedTables → List Addr → AnyIp → Port → Bool
concerns rule tables locals packet port = looks_up rule || is_body_held rule.body tables locals packet port

-- Whatever the tables and the host's own addresses: the gate admits the key of each packet that concerns
-- the rule. Where the rule looks nothing up, it admits no key of a packet that one range of ports, one
-- prefix of IPv4, the protocol or the version shuts out. It tells all of a rule that has no other parts:
-- whose body then holds of each packet whose key is admitted, and of those alone, as `sound` says.
pub record IsGateOf (rule : Rule) (gate : Gate) : Type 0 where
  pub sound : (tables : NamedTables) (locals : List Addr) (packet : AnyIp) (port : Port) (key : GateKey)
      → IsKeyOf packet key → concerns rule tables locals packet port ≡ true → admits gate key ≡ true
  pub telling : (body : Body) (packet : AnyIp) (key : GateKey) → rule.body ≡ Some body → looks_up rule ≡ false → IsKeyOf packet key
      → admits gate key ≡ true → MayHold body packet
  pub exact : is_exact gate ≡ is_told rule
  pub whole : (tables : NamedTables) (locals : List Addr) (packet : AnyIp) (port : Port) (key : GateKey)
      → is_exact gate ≡ true → IsKeyOf packet key → HasAddresses packet → admits gate key ≡ true → is_body_held rule.body tables locals packet port ≡ true

-- one gate for each rule, in their order
abbrev pub AreGates : List Rule → List Gate → Type 0
AreGates [] [] = ⊤
AreGates [] (gate ∷ gates) = ⊥
AreGates (rule ∷ rules) [] = ⊥
AreGates (rule ∷ rules) (gate ∷ gates) = IsGateOf rule gate × AreGates rules gates
