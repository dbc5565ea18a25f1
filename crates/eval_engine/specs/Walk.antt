-- First match with jumps, calls and asks (ipfw(8), "RULE ACTIONS", "STATEFUL FIREWALL").
use Rattle.std.specs.Prelude.{ℕ, zero, suc, ◌+◌, ◌-◌, ◌&&◌, nat_lt, if◌then◌else◌, Option, Some, None, List, [], ◌∷◌, length, drop}
use Rattle.std.specs.List.{position_or_len}
use Rattle.fw_rule.specs.declared.action.Action.{Action}
use Rattle.fw_rule.specs.declared.action.Action.TheVariants.{Allow, Deny, Reset, Unreach, Count, SkipTo, Call, Return, CheckState}
use Rattle.fw_rule.specs.declared.rule.Rule.{Rule}
use Rattle.fw_rule.specs.declared.state_opt.StateOpt.{StateOpt}
use Rattle.state_asks.specs.declared.reply.Reply.{Reply}
use Rattle.state_asks.specs.declared.reply.Reply.TheVariants.{Found, NotFound, Created, Exists, LimitReached, TableFull}
use Rattle.state_asks.specs.declared.rule_ref.RuleRef.{RuleRef}
use Rattle.generation_store.specs.Published.{is_identity}
use Rattle.packet_headers.specs.declared.flows.Flow.{Flow}
use Rattle.eval_engine.specs.declared.judgement.Cause.{Cause}
use Rattle.eval_engine.specs.declared.judgement.Cause.TheVariants as cause
use Rattle.eval_engine.specs.declared.judgement.Verdict.{Verdict}
use Rattle.eval_engine.specs.declared.judgement.Verdict.TheVariants as verdict
use Rattle.eval_engine.specs.Encounter.{is_disabled, is_rule_met, is_check_state, state_of, looks_up, any_flow_of, name_at, rule_ref, lookup_by, install_by}
use Rattle.eval_engine.specs.Question.{Question, rules_of}
use Rattle.eval_engine.specs.Trace.{Seen, Done, is_name_due, with_seen, no_names, Pause, EndsWith, WaitsFor, Trace, PassesOver, Counts, Stops}

-- a judgement ends the evaluation
abbrev pub trace_of_judgement : Question → Verdict → RuleRef → Cause → Trace
trace_of_judgement q verdict rule cause = Stops (EndsWith (record { edition = q.edition.number; verdict = verdict; rule = rule; cause = cause }))

-- behind all rules: rule 65535, with which each list ends, denies what comes to it
abbrev pub denied_at_end : Question → Trace
denied_at_end q = trace_of_judgement q verdict.Deny (record { id = 0; number = 65535 }) cause.Rule

-- An evaluation of the rules of this suffix but for its leading ones that are numbered below this, within calls
-- made by rules of these numbers, and what follows a `return`, if it is within a call.
abbrev pub Walk : Type 0
Walk = ℕ → List Rule → List ℕ → Option Trace → Trace

-- `call` evaluates from the first rule numbered so on, and then behind its own number; where no call deeper is left it
-- is passed over
abbrev pub call_from : Question → Option Walk → ℕ → Rule → (ℕ → Trace) → List ℕ → Trace
call_from q None number rule next callers = next 0
call_from q (Some deeper) number rule next callers = deeper number (rules_of q) (rule.number ∷ callers) (Some (next (rule.number + 1)))

-- `return` goes on behind the last call; where there is none it is passed over
abbrev pub return_to : Option Trace → (ℕ → Trace) → Trace
return_to None next = next 0
return_to (Some back) next = back

-- what follows the action of a rule; `next` goes on behind it, at the first rule numbered so or higher
abbrev pub follows : Question → Option Walk → Rule → (ℕ → Trace) → List ℕ → Option Trace → Action → Trace
follows q deeper rule next callers back Allow = trace_of_judgement q verdict.Allow (rule_ref rule) cause.Rule
follows q deeper rule next callers back Deny = trace_of_judgement q verdict.Deny (rule_ref rule) cause.Rule
follows q deeper rule next callers back Reset = trace_of_judgement q verdict.Reset (rule_ref rule) cause.Rule
follows q deeper rule next callers back (Unreach code) = trace_of_judgement q (verdict.Unreach code) (rule_ref rule) cause.Rule
follows q deeper rule next callers back Count = next 0
follows q deeper rule next callers back (SkipTo number) = next number
follows q deeper rule next callers back (Call number) = call_from q deeper number rule next callers
follows q deeper rule next callers back Return = return_to back next
follows q deeper rule next callers back (CheckState name) = next 0

-- a rule with `keep-state` or `limit` asks for a state before it acts, and is passed over where the packet has no flow
abbrev pub installs : Question → Pause → Rule → Trace → Trace → Option StateOpt → Option Flow → Trace
installs q pause rule passed acted None flow = acted
installs q pause rule passed acted (Some state) None = passed
installs q pause rule passed acted (Some state) (Some flow) = Stops (WaitsFor (install_by q rule state flow) pause)

-- behind the lookup: a `check-state`, and a rule whose body doesn't hold, is passed over
abbrev pub tests : Question → Pause → Rule → Trace → Trace → Trace
tests q pause rule passed acted =
    if is_check_state rule.action then passed
    else if is_rule_met q rule then installs q pause rule passed acted (state_of rule) (any_flow_of q.packet)
    else passed

-- the flow that a rule looks up: that of the packet, where the rule's name is due
abbrev pub lookup_flow : Question → Seen → Rule → Option Flow
lookup_flow q seen rule = if looks_up rule && is_name_due seen (name_at q rule) then any_flow_of q.packet else None

-- a rule that has a flow to look up asks for a state before all else
abbrev pub looks : Question → Pause → Rule → Trace → Trace → Option Flow → Trace
looks q pause rule passed acted None = tests q pause rule passed acted
looks q pause rule passed acted (Some flow) = Stops (WaitsFor (lookup_by q rule flow) pause)

-- a rule of a disabled set is passed over
abbrev pub meets : Question → Pause → Rule → Trace → Trace → Trace
meets q pause rule passed acted =
    if is_disabled q rule then passed else looks q pause rule passed acted (lookup_flow q pause.seen rule)

-- the pause before this suffix
abbrev pub pause_at : Seen → List ℕ → List Rule → Pause
pause_at seen callers suffix = record { seen = seen; callers = callers; suffix = suffix }

-- the rules of the suffix from this number on; behind the last one the packet is denied
unfoldable pub walk : Option Walk → Question → Seen → Walk
walk deeper q seen number [] callers back = denied_at_end q
walk deeper q seen number (rule ∷ rest) callers back =
    if nat_lt rule.number number then walk deeper q seen number rest callers back
    else
    meets q (pause_at seen callers (rule ∷ rest)) rule
    (PassesOver (walk deeper q seen 0 rest callers back))
    (Counts rule.counter (follows q deeper rule (λ number. walk deeper q seen number rest callers back) callers back rule.action))

-- the evaluation within one call more, where so many more may be made
unfoldable pub deeper_walk : ℕ → Question → Seen → Option Walk
deeper_walk zero q seen = None
deeper_walk (suc left) q seen = Some (walk (deeper_walk left q seen) q seen)

-- what follows a `return` within calls made by rules of these numbers
unfoldable pub way_back : ℕ → Question → Seen → List ℕ → Option Trace
way_back left q seen [] = None
way_back left q seen (number ∷ callers) =
    Some (walk (deeper_walk (suc left) q seen) q seen (number + 1) (rules_of q) callers (way_back (suc left) q seen callers))

-- at most sixteen calls are open at once
abbrev pub calls_left : List ℕ → ℕ
calls_left callers = 16 - length callers

-- The evaluation of this suffix but for its leading rules numbered below this, within these calls.
abbrev pub walk_from : Question → Seen → List ℕ → List Rule → ℕ → Trace
walk_from q seen callers suffix number =
    walk (deeper_walk (calls_left callers) q seen) q seen number suffix callers (way_back (calls_left callers) q seen callers)

-- what follows the rule's action, before the rest of the suffix
abbrev pub follows_before : Question → Seen → List ℕ → Rule → List Rule → Trace
follows_before q seen callers rule rest =
    follows q (deeper_walk (calls_left callers) q seen) rule (walk_from q seen callers rest) callers (way_back (calls_left callers) q seen callers) rule.action

-- `return` leads to the innermost caller, or on with the rest
abbrev pub return_before : Question → Seen → List ℕ → List Rule → Trace
return_before q seen callers rest = return_to (way_back (calls_left callers) q seen callers) (walk_from q seen callers rest)

-- the rule acts, before the rest of the suffix
abbrev pub acts_before : Question → Seen → List ℕ → Rule → List Rule → Trace
acts_before q seen callers rule rest = Counts rule.counter (follows_before q seen callers rule rest)

-- the first rule of the suffix acts
abbrev pub acts_from : Question → Seen → List ℕ → List Rule → Trace
acts_from q seen callers [] = denied_at_end q
acts_from q seen callers (rule ∷ rest) = acts_before q seen callers rule rest

-- the first rule of the suffix makes a state, if it has a state option, and then acts
abbrev pub installs_before : Question → Seen → List ℕ → Rule → List Rule → Trace
installs_before q seen callers rule rest =
    installs q (pause_at seen callers (rule ∷ rest)) rule (PassesOver (walk_from q seen callers rest 0)) (acts_before q seen callers rule rest) (state_of rule) (any_flow_of q.packet)

-- the first rule of the suffix is tested by its body
abbrev pub tests_before : Question → Seen → List ℕ → Rule → List Rule → Trace
tests_before q seen callers rule rest =
    tests q (pause_at seen callers (rule ∷ rest)) rule (PassesOver (walk_from q seen callers rest 0)) (acts_before q seen callers rule rest)

-- the first rule of the suffix, behind its lookup
abbrev pub tests_from : Question → Seen → List ℕ → List Rule → Trace
tests_from q seen callers [] = denied_at_end q
tests_from q seen callers (rule ∷ rest) = tests_before q seen callers rule rest

-- the first rule of the suffix denies without a hit
abbrev pub refuses_from : Question → Cause → List Rule → Trace
refuses_from q cause [] = denied_at_end q
refuses_from q cause (rule ∷ rest) = trace_of_judgement q verdict.Deny (rule_ref rule) cause

-- the rules from that of this identity on
abbrev pub suffix_of : ℕ → List Rule → List Rule
suffix_of id rules = drop (position_or_len (is_identity id) rules) rules

-- where the reply leads: a state's rule acts in its own place, and a rule acts once its state is there
abbrev pub leads_to : Question → Seen → List ℕ → List Rule → Reply → Trace
leads_to q seen callers suffix (Found way rule) = acts_from q seen callers (suffix_of rule.id (rules_of q))
leads_to q seen callers suffix NotFound = tests_from q seen callers suffix
leads_to q seen callers suffix Created = acts_from q seen callers suffix
leads_to q seen callers suffix Exists = acts_from q seen callers suffix
leads_to q seen callers suffix (LimitReached count) = refuses_from q (cause.Limit count) suffix
leads_to q seen callers suffix (TableFull count) = refuses_from q (cause.Full count) suffix

-- the name of the first rule of the suffix joins those that were looked up
abbrev pub with_name_at : Question → Seen → List Rule → Seen
with_name_at q seen [] = seen
with_name_at q seen (rule ∷ rest) = with_seen seen (name_at q rule)

-- nothing is looked up behind a state that was found, and no name twice
abbrev pub seen_after : Question → Seen → List Rule → Reply → Seen
seen_after q seen suffix (Found way rule) = Done
seen_after q seen suffix NotFound = with_name_at q seen suffix
seen_after q seen suffix Created = seen
seen_after q seen suffix Exists = seen
seen_after q seen suffix (LimitReached count) = seen
seen_after q seen suffix (TableFull count) = seen

-- how the evaluation goes on with the reply
abbrev pub trace_after_reply : Question → Pause → Reply → Trace
trace_after_reply q pause reply = leads_to q (seen_after q pause.seen pause.suffix reply) pause.callers pause.suffix reply

-- how the evaluation begins
abbrev pub first_trace : Question → Trace
first_trace q = walk_from q no_names [] (rules_of q) 0
