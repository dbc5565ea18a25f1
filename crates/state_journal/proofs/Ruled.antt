-- The rules of the states stay among those of the last publication.
use Rattle.std.proofs.Common.{◌≡◌, ℕ, Bool, true, false, IsTrue, List, [], ◌∷◌, ◌++◌, Option, Some, None, cond, refl, max, map, subst}
use Rattle.std.specs.Prelude.{◌==◌, ◌&&◌, ◌||◌}
use Rattle.std.specs.List.{AllByRecursion, filter, find}
use Rattle.fw_rule.specs.declared.state_opt.LimitMask.{LimitMask}
use Rattle.packet_headers.specs.declared.flows.Flow.{Flow}
use Rattle.state_asks.specs.declared.op.Op.{Op}
use Rattle.state_asks.specs.declared.op.Op.TheVariants.{Lookup, Install}
use Rattle.state_asks.specs.declared.reply.Reply.{Reply}
use Rattle.state_asks.specs.declared.reply.Reply.TheVariants.{Created, Exists, LimitReached, TableFull}
use Rattle.state_asks.specs.declared.reply.Way.{Way}
use Rattle.state_asks.specs.declared.reply.Way.TheVariants.{Forward, Reverse}
use Rattle.dyn_states.specs.Flows.{way_of}
use Rattle.state_asks.specs.Facts.{is_rule_list}
use Rattle.state_asks.specs.RuleLists.{has_id}
use Rattle.state_asks.specs.declared.rule_ref.RuleRef.{RuleRef}
use Rattle.dyn_states.specs.declared.state.State.{State}
use Rattle.dyn_states.specs.StateObject.{StateObject, object_at_second, with_first, found_reply, or_full, limit_reply, install_reply, after_lookup, after_install, lookup_reply, new_state, reply_of, after_ask, state_after_lookup, considers, has_rule_among, is_live, renewed_state, with_flags, handed_over, states_after, last_rule_ref}
use Rattle.state_journal.specs.Journal.{IsFoundOf, NamesRuleOf}

-- the rules of these states are among those
abbrev pub AreRuled : List ℕ → List State → Type 0
AreRuled rules states = AllByRecursion (λ s. IsTrue (has_rule_among rules s)) states

pub AreRuled-filter : (rules : List ℕ) (test : State → Bool) (states : List State) → AreRuled rules states → AreRuled rules (filter test states)
AreRuled-filter rules test [] all = all
AreRuled-filter rules test (s ∷ states) all = decided (test s) (AreRuled-filter rules test states all.1)
  where
    decided : (b : Bool) → AreRuled rules (filter test states) → AreRuled rules (cond b (s ∷ filter test states) (filter test states))
    decided true rest = (all.0, rest)
    decided false rest = rest

-- a change that leaves a state its rule
pub AreRuled-with_first : (rules : List ℕ) (test : State → Bool) (change : State → State) → ((s : State) → IsTrue (has_rule_among rules s) → IsTrue (has_rule_among rules (change s)))
    → (states : List State) → AreRuled rules states → AreRuled rules (with_first test change states)
unfolding with_first
AreRuled-with_first rules test change same [] all = all
AreRuled-with_first rules test change same (s ∷ states) all = decided (test s) (AreRuled-with_first rules test change same states all.1)
  where
    decided : (b : Bool) → AreRuled rules (with_first test change states) → AreRuled rules (cond b (change s ∷ states) (s ∷ with_first test change states))
    decided true rest = (same s all.0, all.1)
    decided false rest = (all.0, rest)

pub AreRuled-append : (rules : List ℕ) (states : List State) (s : State) → AreRuled rules states → IsTrue (has_rule_among rules s) → AreRuled rules (states ++ s ∷ [])
AreRuled-append rules [] s all one = (one, tt)
AreRuled-append rules (first ∷ states) s all one = (all.0, AreRuled-append rules states s all.1 one)

-- a state that is found is one of the list
found_is_ruled : (rules : List ℕ) (flow : Flow) (test : State → Bool) (states : List State) → AreRuled rules states → IsFoundOf rules (found_reply flow (find test states))
found_is_ruled rules flow test [] all = tt
found_is_ruled rules flow test (s ∷ states) all = decided (test s) (found_is_ruled rules flow test states all.1)
  where
    decided : (b : Bool) → IsFoundOf rules (found_reply flow (find test states)) → IsFoundOf rules (found_reply flow (cond b (Some s) (find test states)))
    decided true rest = all.0
    decided false rest = rest

-- an install finds no state
full_is_none : (rules : List ℕ) (b : Bool) (count : ℕ) → IsFoundOf rules (cond b (TableFull count) Created)
full_is_none rules true count = tt
full_is_none rules false count = tt

or_full_is_none : (rules : List ℕ) (o : StateObject) (b : Bool) (count : ℕ) → IsFoundOf rules (or_full o (cond b (Some (LimitReached count)) None))
or_full_is_none rules o true count = tt
or_full_is_none rules o false count = full_is_none rules _ _

limit_is_none : (rules : List ℕ) (o : StateObject) (rule : RuleRef) (limit : Option (LimitMask × ℕ)) (flow : Flow) → IsFoundOf rules (or_full o (limit_reply o rule limit flow))
limit_is_none rules o rule None flow = full_is_none rules _ _
limit_is_none rules o rule (Some limit) flow = or_full_is_none rules o _ _

install_is_none : (rules : List ℕ) (b : Bool) (r : Reply) → IsFoundOf rules r → IsFoundOf rules (cond b Exists r)
install_is_none rules true r none = tt
install_is_none rules false r none = none

pub AreRuled-raised : (rules : List ℕ) (o : StateObject) (second : ℕ) → AreRuled rules o.states → AreRuled rules (object_at_second o second).states
unfolding object_at_second
AreRuled-raised rules o second all = AreRuled-filter rules (is_live (max o.clock second)) o.states all

-- what an ask finds has a rule of the list
pub found_of_ask : (rules : List ℕ) (o : StateObject) (op : Op) → AreRuled rules o.states → IsFoundOf rules (reply_of o op)
unfolding lookup_reply install_reply
found_of_ask rules o (Lookup flags flow second name) all = found_is_ruled rules flow (considers flow name) (object_at_second o second).states (AreRuled-raised rules o second all)
found_of_ask rules o (Install flags flow second rule limit name) all =
    install_is_none rules _ _ (limit_is_none rules (object_at_second o second) rule limit flow)

same_rule : (rules : List ℕ) (o : StateObject) (flow : Flow) (flags : ℕ) (s : State) (way : Way) → IsTrue (has_rule_among rules s) → IsTrue (has_rule_among rules (renewed_state o.settings o.clock (with_flags way flags s)))
same_rule rules o flow flags s Forward is = is
same_rule rules o flow flags s Reverse is = is

made_is_ruled : (rules : List ℕ) (b : Bool) (o : StateObject) (s : State) → AreRuled rules o.states → IsTrue (has_rule_among rules s)
    → AreRuled rules (cond b (let made : StateObject = record o { states = o.states ++ s ∷ [] } in made) o).states
made_is_ruled rules true o s all one = AreRuled-append rules o.states s all one
made_is_ruled rules false o s all one = all

-- after an ask the states have rules of the list, if the ask's rule is one
pub AreRuled-after_ask : (rules : List ℕ) (o : StateObject) (op : Op) → NamesRuleOf rules op → AreRuled rules o.states → AreRuled rules (after_ask o op).states
unfolding after_lookup after_install
AreRuled-after_ask rules o (Lookup flags flow second name) names all =
    AreRuled-with_first rules (considers flow name) (state_after_lookup (object_at_second o second) flow flags) (λ s is. same_rule rules (object_at_second o second) flow flags s (way_of s.flow flow) is) (object_at_second o second).states (AreRuled-raised rules o second all)
AreRuled-after_ask rules o (Install flags flow second rule limit name) names all =
    made_is_ruled rules _ (object_at_second o second) (new_state (object_at_second o second) flow flags rule limit name) (AreRuled-raised rules o second all) names

-- the states that a publication keeps or drops
handed_is_ruled : (rules : List ℕ) (b : Bool) (s : State) → IsTrue (has_id rules 0) → b ≡ has_rule_among rules s → IsTrue (has_rule_among rules (cond b s (record s { rule = last_rule_ref })))
handed_is_ruled rules true s first is = subst IsTrue is refl
handed_is_ruled rules false s first is = first

AreRuled-handed : (rules : List ℕ) (states : List State) → IsTrue (has_id rules 0) → AreRuled rules (map (handed_over rules) states)
AreRuled-handed rules [] first = tt
AreRuled-handed rules (s ∷ states) first = (handed_is_ruled rules (has_rule_among rules s) s first refl, AreRuled-handed rules states first)

AreRuled-kept : (rules : List ℕ) (states : List State) → AreRuled rules (filter (has_rule_among rules) states)
AreRuled-kept rules [] = tt
AreRuled-kept rules (s ∷ states) = decided (has_rule_among rules s) refl (AreRuled-kept rules states)
  where
    decided : (b : Bool) → b ≡ has_rule_among rules s → AreRuled rules (filter (has_rule_among rules) states) → AreRuled rules (cond b (s ∷ filter (has_rule_among rules) states) (filter (has_rule_among rules) states))
    decided true is rest = (subst IsTrue is refl, rest)
    decided false is rest = rest

-- the states that a publication leaves have rules of that publication
pub AreRuled-publication : (rules : List ℕ) (keep : Bool) (states : List State) → IsTrue (has_id rules 0) → AreRuled rules (states_after keep rules states)
AreRuled-publication rules true states first = AreRuled-handed rules states first
AreRuled-publication rules false states first = AreRuled-kept rules states

-- the rules of a publication have identity 0 among them
pub has_id-zero : (rules : List ℕ) → IsTrue (is_rule_list rules) → IsTrue (has_id rules 0)
has_id-zero [] is = cc
has_id-zero (id ∷ rules) is = either (id == 0) _ _ is
  where
    either : (a b c : Bool) → IsTrue (a && b) → IsTrue (a || c)
    either true b c is = refl
    either false b c is = cc
