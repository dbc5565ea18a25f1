-- Rule 65535, with which each list of rules ends (ipfw(8), "RULESET").
use Rattle.std.specs.Prelude.{ℕ, false, Some, None, [], ◌∷◌}
use Rattle.fw_rule.specs.declared.action.Action.TheVariants.{Deny}
use Rattle.fw_rule.specs.declared.addr_item.AddrItem.TheVariants.{Any}
use Rattle.fw_rule.specs.declared.addr_spec.AddrSpec.{AddrSpec}
use Rattle.fw_rule.specs.declared.body.Body.{Body}
use Rattle.fw_rule.specs.declared.body.Family.TheVariants.{AnyIp}
use Rattle.fw_rule.specs.declared.rule.Rule.{Rule}

-- every address
abbrev pub any_address : AddrSpec
any_address = record { negated = false; items = Any ∷ [] }

-- ip from any to any
abbrev pub any_body : Body
any_body = record {
  family = AnyIp;
  protocol = 0;
  source = any_address;
  source_ports = None;
  destination = any_address;
  destination_ports = None;
  options = [];
  state = None;
  state_at = 0;
}

-- rule 65535, which every list has: `65535 set 31 deny ip from any to any`
abbrev pub last_rule : ℕ → Rule
last_rule counter = record { number = 65535; set = 31; id = 0; counter = counter; action = Deny; log = None; body = Some any_body }
