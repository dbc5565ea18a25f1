-- The dynamic states (ipfw(8), "STATEFUL FIREWALL"): a list of states in order of making, a clock, and
-- the settings of the last publication. What an ask answers and leaves, and what a publication leaves.
use Rattle.std.specs.Prelude.{ℕ, ◌+◌, Bool, true, false, ◌==◌, ◌&&◌, nat_lt, nat_le, max, bit_or, if◌then◌else◌, Option, Some, None, List, [], ◌∷◌, ◌++◌, length, map, filter, find, count_by}
use Rattle.std.specs.List.{list_any}
use Rattle.packet_headers.specs.declared.flows.Flow.{Flow}
use Rattle.fw_rule.specs.declared.state_opt.LimitMask.{LimitMask}
use Rattle.fw_rule.specs.declared.state_opt.LimitMask.TheVariants.{SrcAddr, SrcPort, DstAddr, DstPort}
use Rattle.fw_rule.specs.Values.{Values}
use Rattle.state_asks.specs.declared.op.FlowName.{FlowName}
use Rattle.state_asks.specs.declared.op.FlowName.TheVariants.{Any, Named}
use Rattle.state_asks.specs.declared.op.Op.{Op}
use Rattle.state_asks.specs.declared.op.Op.TheVariants.{Lookup, Install}
use Rattle.state_asks.specs.declared.reply.Reply.{Reply}
use Rattle.state_asks.specs.declared.reply.Reply.TheVariants.{Found, NotFound, Created, Exists, LimitReached, TableFull}
use Rattle.state_asks.specs.declared.rule_ref.RuleRef.{RuleRef}
use Rattle.dyn_states.specs.declared.state.State.{State}
use Rattle.state_asks.specs.declared.reply.Way.{Way}
use Rattle.state_asks.specs.declared.reply.Way.TheVariants.{Forward, Reverse}
use Rattle.dyn_states.specs.Flows.{matches_flow, way_of}
use Rattle.state_asks.specs.RuleLists.{has_id}
use Rattle.dyn_states.specs.Lifetimes.{kept_flags, lifetime}

-- The states in order of making, the clock, and the settings.
pub record StateObject : Type 0 where
  pub states : List State
  pub clock : ℕ
  pub settings : Values

-- A state lives while the clock is below its expiry (this project's own).
abbrev pub is_live : ℕ → State → Bool
is_live clock s = nat_lt clock s.expiry

-- Every ask first raises the clock, which never goes back; dead states are gone and never come back.
unfoldable pub object_at_second : StateObject → ℕ → StateObject
object_at_second o second = record {
  states = filter (is_live (max o.clock second)) o.states;
  clock = max o.clock second;
  settings = o.settings;
}

-- `:any` is every name
abbrev pub is_name_asked : FlowName → ℕ → Bool
is_name_asked Any name = true
is_name_asked (Named asked) name = asked == name

-- A lookup considers the states that match the flow and have its name.
abbrev pub considers : Flow → FlowName → State → Bool
considers flow name s = is_name_asked name s.name && matches_flow s.flow flow

-- the flags of a packet join those seen in its direction
abbrev pub with_flags : Way → ℕ → State → State
with_flags Forward flags s = record s { forward = bit_or s.forward (kept_flags flags) }
with_flags Reverse flags s = record s { reverse = bit_or s.reverse (kept_flags flags) }

-- the state lives from now on for its lifetime
abbrev pub renewed_state : Values → ℕ → State → State
renewed_state settings clock s = record s { expiry = clock + lifetime settings s.flow.protocol s.forward s.reverse }

-- what a lookup does with the state that it finds
abbrev pub state_after_lookup : StateObject → Flow → ℕ → State → State
state_after_lookup o flow flags s = renewed_state o.settings o.clock (with_flags (way_of s.flow flow) flags s)

-- the list with its first state that passes the test changed
unfoldable pub with_first : (State → Bool) → (State → State) → List State → List State
with_first test change [] = []
with_first test change (s ∷ rest) = if test s then change s ∷ rest else s ∷ with_first test change rest

-- Of several states the first made is found.
abbrev pub found_reply : Flow → Option State → Reply
found_reply flow None = NotFound
found_reply flow (Some s) = Found (way_of s.flow flow) s.rule

-- what a lookup answers
unfoldable pub lookup_reply : StateObject → Flow → FlowName → Reply
lookup_reply o flow name = found_reply flow (find (considers flow name) o.states)

-- the state that was found has seen the packet; no other changes
unfoldable pub after_lookup : StateObject → Flow → ℕ → FlowName → StateObject
after_lookup o flow flags name = record o { states = with_first (considers flow name) (state_after_lookup o flow flags) o.states }

-- the parameter that a limit counts by, of a flow
abbrev pub parameter : LimitMask → Flow → ℕ
parameter SrcAddr flow = flow.source.0
parameter SrcPort flow = flow.source_port
parameter DstAddr flow = flow.destination.0
parameter DstPort flow = flow.destination_port

-- A limit counts the states of its rule whose own flow has the same parameter.
abbrev pub counts_for : RuleRef → LimitMask → Flow → State → Bool
counts_for rule mask flow s = s.rule.id == rule.id && parameter mask s.flow == parameter mask flow

-- how many states a limit counts
unfoldable pub limit_count : StateObject → RuleRef → LimitMask → Flow → ℕ
limit_count o rule mask flow = count_by (counts_for rule mask flow) o.states

-- a limit answers `LimitReached` where it isn't above its count, which the answer tells
abbrev pub limit_reply : StateObject → RuleRef → Option (LimitMask × ℕ) → Flow → Option Reply
limit_reply o rule None flow = None
limit_reply o rule (Some limit) flow =
    if nat_le limit.1 (limit_count o rule limit.0 flow) then Some (LimitReached (limit_count o rule limit.0 flow)) else None

-- the table answers `TableFull` where `dyn_max` isn't above the number of states, which the answer tells
abbrev pub full_reply : StateObject → Reply
full_reply o = if nat_le o.settings.max (length o.states) then TableFull (length o.states) else Created

-- the answer of the limit where it gives one, else that of the table
abbrev pub or_full : StateObject → Option Reply → Reply
or_full o None = full_reply o
or_full o (Some reply) = reply

-- an install answers `Exists`, then `LimitReached`, then `TableFull`, else `Created`
unfoldable pub install_reply : StateObject → Flow → RuleRef → Option (LimitMask × ℕ) → ℕ → Reply
install_reply o flow rule limit name =
    if list_any (considers flow (Named name)) o.states then Exists else or_full o (limit_reply o rule limit flow)

-- the state of the packet that made it, whose flags were seen forward
abbrev pub new_state : StateObject → Flow → ℕ → RuleRef → Option (LimitMask × ℕ) → ℕ → State
new_state o flow flags rule limit name =
    renewed_state o.settings o.clock (record {
      flow = flow;
      rule = rule;
      limit = limit;
      name = name;
      expiry = 0;
      forward = kept_flags flags;
      reverse = 0;
    })

-- a state was made
abbrev pub is_created : Reply → Bool
is_created (Found way rule) = false
is_created NotFound = false
is_created Created = true
is_created Exists = false
is_created (LimitReached count) = false
is_created (TableFull count) = false

-- an install leaves one state more where its answer is `Created`
unfoldable pub after_install : StateObject → Flow → ℕ → RuleRef → Option (LimitMask × ℕ) → ℕ → StateObject
after_install o flow flags rule limit name =
    if is_created (install_reply o flow rule limit name)
    then record o { states = o.states ++ new_state o flow flags rule limit name ∷ [] }
    else o

-- what an ask answers
abbrev pub reply_of : StateObject → Op → Reply
reply_of o (Lookup flags flow second name) = lookup_reply (object_at_second o second) flow name
reply_of o (Install flags flow second rule limit name) = install_reply (object_at_second o second) flow rule limit name

-- what an ask leaves
abbrev pub after_ask : StateObject → Op → StateObject
after_ask o (Lookup flags flow second name) = after_lookup (object_at_second o second) flow flags name
after_ask o (Install flags flow second rule limit name) = after_install (object_at_second o second) flow flags rule limit name

-- the rule 65535, which gets the states whose own rule is gone where they are kept
abbrev pub last_rule_ref : RuleRef
last_rule_ref = record { id = 0; number = 65535 }

-- the state's rule is one of these
abbrev pub has_rule_among : List ℕ → State → Bool
has_rule_among rules s = has_id rules s.rule.id

-- the state under rule 65535 where its own rule isn't one of these
abbrev pub handed_over : List ℕ → State → State
handed_over rules s = if has_rule_among rules s then s else record s { rule = last_rule_ref }

-- A publication brings its settings. Where they have `dyn_keep_states` 0, it drops the states whose rule
-- isn't in it; where they have 1, these get rule 65535 and keep all else.
abbrev pub states_after : Bool → List ℕ → List State → List State
states_after true rules states = map (handed_over rules) states
states_after false rules states = filter (has_rule_among rules) states

-- what a publication leaves
unfoldable pub after_publication : StateObject → List ℕ → Values → StateObject
after_publication o rules settings = record {
  states = states_after settings.keep rules o.states;
  clock = o.clock;
  settings = settings;
}

-- the first object has no state, and its clock is at 0
abbrev pub first_object : Values → StateObject
first_object settings = record { states = []; clock = 0; settings = settings }

-- the states that a value holds, and for how many it has room
pub record HeldStates : Type 0 where
  pub object : StateObject
  pub room : ℕ
