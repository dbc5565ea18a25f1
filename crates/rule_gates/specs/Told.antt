-- The rules of which a gate tells all (ipfw(8), "RULE BODY").
use Rattle.std.specs.Prelude.{Bool, true, false, not, ◌&&◌, ◌==◌, Option, Some, None, List, [], ◌∷◌, length}
use Rattle.fw_rule.specs.declared.addr_item.AddrItem.{AddrItem}
use Rattle.fw_rule.specs.declared.addr_item.AddrItem.TheVariants.{Any, Me, Net, Net6, InTable, TableValue}
use Rattle.fw_rule.specs.declared.addr_spec.AddrSpec.{AddrSpec}
use Rattle.fw_rule.specs.declared.body.Body.{Body}
use Rattle.fw_rule.specs.declared.body.Family.{Family}
use Rattle.fw_rule.specs.declared.body.Family.TheVariants as family
use Rattle.fw_rule.specs.declared.port_list.PortList.{PortList}
use Rattle.fw_rule.specs.declared.rule.Rule.{Rule}
use Rattle.rule_gates.specs.Stateful.{looks_up}

-- packets of IPv4 are of the version
abbrev pub has_four : Family → Bool
has_four family.AnyIp = true
has_four family.Four = true
has_four family.Six = false

-- the list isn't negated and has a single element, which passes the test
abbrev pub is_only : {A : Type 0} → (A → Bool) → Bool → List A → Bool
is_only test true items = false
is_only test false [] = false
is_only test false (item ∷ []) = test item
is_only test false (item ∷ other ∷ items) = false

-- a gate tells the element, beside the version that the rule asks for: every address, or a prefix of IPv4
abbrev pub is_told_item : Family → AddrItem → Bool
is_told_item asked Any = true
is_told_item asked Me = false
is_told_item asked (Net net) = has_four asked
is_told_item asked (Net6 net) = false
is_told_item asked (InTable name) = false
is_told_item asked (TableValue name value) = false

-- a gate tells the addresses: the rule asks for a single element that a gate tells
abbrev pub are_told_addresses : Family → AddrSpec → Bool
are_told_addresses asked addresses = is_only (is_told_item asked) addresses.negated addresses.items

-- a gate tells the ports: the rule asks for none, or for a single range
abbrev pub are_told_ports : Option PortList → Bool
are_told_ports None = true
are_told_ports (Some asked) = is_only (λ range. true) asked.negated asked.ranges

-- a gate tells the body: its addresses, its ports, and no option
abbrev pub is_told_body : Option Body → Bool
is_told_body None = false
is_told_body (Some body) =
    are_told_addresses body.family body.source
    && (are_told_addresses body.family body.destination
    && (are_told_ports body.source_ports
    && (are_told_ports body.destination_ports
    && length body.options == 0)))

-- the rule looks nothing up, and a gate tells its body
abbrev pub is_told : Rule → Bool
is_told rule = not (looks_up rule) && is_told_body rule.body
