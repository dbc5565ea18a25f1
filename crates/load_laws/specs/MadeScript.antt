-- The script that a load makes, as the grammar reads it (ipfw(8), "RULE FORMAT").
use Rattle.std.specs.Prelude.{ℕ, ◌/◌, false, Some, None, List, [], ◌∷◌}
use Rattle.fw_base.specs.Prefix.{network}
use Rattle.fw_rule.specs.FlowName.{default_flow}
use Rattle.fw_rule.specs.declared.action.Action.{Action}
use Rattle.fw_rule.specs.declared.action.Action.TheVariants.{Allow, Deny, CheckState}
use Rattle.fw_rule.specs.declared.addr_item.AddrItem.TheVariants.{Net}
use Rattle.fw_rule.specs.declared.addr_spec.AddrSpec.{AddrSpec}
use Rattle.fw_rule.specs.declared.body.Body.{Body}
use Rattle.fw_rule.specs.declared.body.Family.TheVariants.{AnyIp}
use Rattle.fw_rule.specs.declared.command.Command.TheVariants.{Add, Delete}
use Rattle.fw_rule.specs.declared.port_list.PortList.{PortList}
use Rattle.fw_rule.specs.declared.rule_draft.RuleDraft.{RuleDraft}
use Rattle.fw_rule.specs.declared.state_opt.StateOpt.TheVariants.{Keep}
use Rattle.fw_rule.specs.declared.test.Test.TheVariants.{Setup, IcmpTypes}
use Rattle.fw_command.specs.declared.script.Line.{Line}
use Rattle.fw_command.specs.declared.script.Script.{Script}
use Rattle.fw_command.specs.declared.script.Step.TheVariants.{Run, After}
use Rattle.rule_chain.specs.LastRule.{any_address, any_body}

-- 10.0.0.0/24, the network of the load's clients
abbrev pub client_network : AddrSpec
client_network = record { negated = false; items = Net (network 0x0a00_0000 24) ∷ [] }

-- one port
abbrev pub one_port : ℕ → PortList
one_port port = record { negated = false; ranges = record { low = port; high = port } ∷ [] }

-- rule 100: check-state
abbrev pub lookup_draft : RuleDraft
lookup_draft = record { number = Some 100; set = 0; action = CheckState (Some default_flow); log = None; body = None }

-- a rule of set 0 with a body
abbrev pub draft : ℕ → Action → Body → RuleDraft
draft number action body = record { number = Some number; set = 0; action = action; log = None; body = Some body }

-- tcp from 10.0.0.0/24 to any 80 setup keep-state
abbrev pub connection_body : Body
connection_body = record {
  family = AnyIp;
  protocol = 6;
  source = client_network;
  source_ports = None;
  destination = any_address;
  destination_ports = Some (one_port 80);
  options = record { negated = false; test = Setup } ∷ [];
  state = Some (Keep default_flow);
  state_at = 1;
}

-- udp from 10.0.0.0/24 to any 53 keep-state
abbrev pub question_body : Body
question_body = record {
  family = AnyIp;
  protocol = 17;
  source = client_network;
  source_ports = None;
  destination = any_address;
  destination_ports = Some (one_port 53);
  options = [];
  state = Some (Keep default_flow);
  state_at = 0;
}

-- icmp from any to any icmptypes 0,8: these two types are the bits 1 and 256
abbrev pub echo_body : Body
echo_body = record {
  family = AnyIp;
  protocol = 1;
  source = any_address;
  source_ports = None;
  destination = any_address;
  destination_ports = None;
  options = record { negated = false; test = IcmpTypes 257 } ∷ [];
  state = None;
  state_at = 0;
}

-- the rules before `live`, each on its line
abbrev pub made_lines : List Line
made_lines =
    record { line = 1; command = Add lookup_draft }
    ∷ record { line = 2; command = Add (draft 200 Allow connection_body) }
    ∷ record { line = 3; command = Add (draft 300 Allow question_body) }
    ∷ record { line = 4; command = Add (draft 400 Allow echo_body) }
    ∷ record { line = 5; command = Add (draft 500 Deny any_body) }
    ∷ []

-- behind half of so many records rule 300 is deleted
abbrev pub made_script : ℕ → Script
made_script n = record {
  before = made_lines;
  live_at = Some 6;
  live = After (n / 2) ∷ Run (record { line = 8; command = Delete (300 ∷ []) }) ∷ [];
}
