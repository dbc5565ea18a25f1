-- What a rule is to the packet (ipfw(8), "RULE FORMAT", "SETS OF RULES", "STATEFUL FIREWALL").
use Rattle.std.specs.Prelude.{ℕ, ⊤, Bool, false, ◌&&◌, nat_lt, unwrap_or, Option, Some, None}
use Rattle.fw_rule.specs.Bits.{has_bit}
use Rattle.fw_rule.specs.declared.action.Action.{Action}
use Rattle.fw_rule.specs.declared.action.Action.TheVariants.{Allow, Deny, Reset, Unreach, Count, SkipTo, Call, Return, CheckState}
use Rattle.fw_rule.specs.declared.body.Body.{Body}
use Rattle.fw_rule.specs.declared.state_opt.LimitMask.{LimitMask}
use Rattle.fw_rule.specs.declared.rule.Rule.{Rule}
use Rattle.fw_rule.specs.declared.state_opt.StateOpt.{StateOpt}
use Rattle.fw_rule.specs.declared.state_opt.StateOpt.TheVariants.{Keep, Limit}
use Rattle.state_asks.specs.Flags.{kept_flags}
use Rattle.state_asks.specs.declared.op.FlowName.{FlowName}
use Rattle.state_asks.specs.declared.op.Op.{Op}
use Rattle.state_asks.specs.declared.op.Op.TheVariants.{Lookup, Install}
use Rattle.state_asks.specs.declared.rule_ref.RuleRef.{RuleRef}
use Rattle.generation_store.specs.Published.{flow_name}
use Rattle.ip6_headers.specs.declared.any_ip.AnyIp.{AnyIp}
use Rattle.ip6_headers.specs.declared.any_ip.AnyIp.TheVariants.{Four, Six}
use Rattle.ip6_headers.specs.Either.{any_tcp_flags_of}
use Rattle.packet_headers.specs.declared.flows.Flow.{Flow}
use Rattle.packet_headers.specs.Flows.{flow_of}
use Rattle.rule_chain.specs.Names.{number_of_name, state_name}
use Rattle.rule_match.specs.Holds.{holds}
pub use Rattle.rule_gates.specs.Stateful.{is_check_state, body_state, state_of, looks_up}
use Rattle.eval_engine.specs.Question.{Question}

-- rules of a disabled set are passed over
unfoldable pub is_disabled : Question → Rule → Bool
is_disabled q rule = nat_lt rule.set 32 && has_bit q.edition.config.disabled rule.set

-- the body holds of the packet; a rule without one holds of none
abbrev pub is_body_met : Question → Option Body → Bool
is_body_met q None = false
is_body_met q (Some body) = holds body q.edition.config.tables q.edition.config.locals q.packet q.port

-- the rule's body holds of the packet; a `check-state` has none
unfoldable pub is_rule_met : Question → Rule → Bool
is_rule_met q rule = is_body_met q rule.body

-- the action is a call
abbrev pub IsCall : Action → Type 0
IsCall Allow = ⊥
IsCall Deny = ⊥
IsCall Reset = ⊥
IsCall (Unreach code) = ⊥
IsCall Count = ⊥
IsCall (SkipTo number) = ⊥
IsCall (Call number) = ⊤
IsCall Return = ⊥
IsCall (CheckState name) = ⊥

-- the action goes on behind its own place, within the same call
abbrev pub IsOnward : Action → Type 0
IsOnward Allow = ⊥
IsOnward Deny = ⊥
IsOnward Reset = ⊥
IsOnward (Unreach code) = ⊥
IsOnward Count = ⊤
IsOnward (SkipTo number) = ⊤
IsOnward (Call number) = ⊥
IsOnward Return = ⊥
IsOnward (CheckState name) = ⊤

-- the flow of an IPv4 packet; a packet of IPv6 has none
abbrev pub any_flow_of : AnyIp → Option Flow
any_flow_of (Four packet) = flow_of packet
any_flow_of (Six packet) = None

-- FIN, SYN and RST of a packet of TCP, 0 where the packet isn't TCP
abbrev pub flags_of : AnyIp → ℕ
flags_of packet = kept_flags (unwrap_or (any_tcp_flags_of packet) 0)

-- the flow name that the rule looks up
abbrev pub name_at : Question → Rule → FlowName
name_at q rule = flow_name q.edition.config.names rule

-- the rule, as states and judgements name it
abbrev pub rule_ref : Rule → RuleRef
rule_ref rule = record { id = rule.id; number = rule.number }

-- the ask whether there is a state of this rule's flow name
abbrev pub lookup_by : Question → Rule → Flow → Op
lookup_by q rule flow = Lookup (flags_of q.packet) flow q.second (name_at q rule)

-- the mask and the number of a `limit`
abbrev pub state_limit_of : StateOpt → Option (LimitMask × ℕ)
state_limit_of (Keep name) = None
state_limit_of (Limit mask most name) = Some (mask, most)

-- the ask that a state be made for this rule
abbrev pub install_by : Question → Rule → StateOpt → Flow → Op
install_by q rule state flow =
    Install (flags_of q.packet) flow q.second (rule_ref rule) (state_limit_of state) (number_of_name q.edition.config.names (state_name state))
