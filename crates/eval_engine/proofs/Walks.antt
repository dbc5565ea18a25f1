-- Where an evaluation goes on.
use Rattle.std.proofs.Common.{◌≡◌, ℕ, suc, ◌+◌, ◌≤◌, ◌<◌, Bool, true, false, ◌||◌, is_some, max, nat_lt, nat_le, Option, Some, None, List, [], ◌∷◌, length, get_or, drop, refl, ap, sym, ◌∙◌, arith}
use Rattle.fw_rule.specs.declared.action.Action.{Action}
use Rattle.fw_rule.specs.declared.action.Action.TheVariants.{Allow, Deny, Reset, Unreach, Count, SkipTo, Call, Return, CheckState}
use Rattle.fw_rule.specs.declared.rule.Rule.{Rule}
use Rattle.fw_rule.specs.declared.state_opt.StateOpt.{StateOpt}
use Rattle.packet_headers.specs.declared.flows.Flow.{Flow}
use Rattle.generation_store.specs.Jumps.{first_from, target}
use Rattle.rule_chain.specs.Chain.{AscendsFrom}
use Rattle.eval_engine.proofs.Places.{first_behind_place, behind}
use Rattle.std.proofs.lemmas.List.{drop-drop}
use Rattle.eval_engine.specs.Encounter.{IsCall, IsOnward, is_disabled, is_rule_met, is_check_state, state_of, any_flow_of, lookup_by, install_by}
use Rattle.eval_engine.specs.Place.{IsTold}
use Rattle.eval_engine.specs.Question.{Question}
use Rattle.eval_engine.specs.Trace.{Seen, WaitsFor, Trace, PassesOver, Stops}
use Rattle.eval_engine.specs.Walk.{Walk, walk, deeper_walk, way_back, walk_from, calls_left, call_from, meets, pause_at, follows, return_to, acts_before, looks, lookup_flow, denied_at_end, installs, installs_before, tests_before}

-- no number is below 0
pub none_below : (n : ℕ) → nat_lt n 0 ≡ false
none_below n = grind arith

-- leading rules numbered below are left out
pub walk_skips : (deeper : Option Walk) (q : Question) (seen : Seen) (number : ℕ) (suffix : List Rule) (callers : List ℕ) (back : Option Trace)
    → walk deeper q seen number suffix callers back ≡ walk deeper q seen 0 (drop (first_from number suffix) suffix) callers back
unfolding walk
walk_skips deeper q seen number [] callers back = refl
walk_skips deeper q seen number (rule ∷ rest) callers back = go (walk_skips deeper q seen number rest callers back) (nat_lt rule.number number) refl
  where
    is_below : (a b : ℕ) → nat_lt a b ≡ true → nat_le b a ≡ false
    is_below a b is = grind arith

    is_above : (a b : ℕ) → nat_lt a b ≡ false → nat_le b a ≡ true
    is_above a b is = grind arith

    go : walk deeper q seen number rest callers back ≡ walk deeper q seen 0 (drop (first_from number rest) rest) callers back
        → (b : Bool) → nat_lt rule.number number ≡ b
        → walk deeper q seen number (rule ∷ rest) callers back ≡ walk deeper q seen 0 (drop (first_from number (rule ∷ rest)) (rule ∷ rest)) callers back
    go skips true is =
        let one : 1 + first_from number rest ≡ suc (first_from number rest) = omega arith in
        rw (is, is_below rule.number number is, one) skips
    go skips false is =
        rw (is, is_above rule.number number is, none_below rule.number) refl

-- the end of the rules
pub walk_ends : (q : Question) (seen : Seen) (callers : List ℕ) → walk_from q seen callers [] 0 ≡ denied_at_end q
unfolding walk
walk_ends q seen callers = refl

-- the first rule of the suffix is met
pub walk_meets : (q : Question) (seen : Seen) (callers : List ℕ) (rule : Rule) (rest : List Rule)
    → walk_from q seen callers (rule ∷ rest) 0
    ≡ meets q (pause_at seen callers (rule ∷ rest)) rule (PassesOver (walk_from q seen callers rest 0)) (acts_before q seen callers rule rest)
unfolding walk
walk_meets q seen callers rule rest = rw (none_below rule.number) refl

module _ (q : Question) (seen : Seen) where
  -- the rules of the question's edition
  abbrev pub all_rules : List Rule
  all_rules = q.edition.config.rules

  -- behind a place the first rule numbered so or higher stands there or in its own place
  pub walk_jumps : (callers : List ℕ) (place number : ℕ) (d : Rule) → AscendsFrom 1 all_rules → place ≤ length all_rules
      → walk_from q seen callers (drop place all_rules) number ≡ walk_from q seen callers (drop (max place (first_from number all_rules)) all_rules) 0
  walk_jumps callers place number d h within =
      walk_skips _ q seen number (drop place all_rules) callers _
      ∙ ap (λ (suffix : List Rule). walk_from q seen callers suffix 0)
      (drop-drop (first_from number (drop place all_rules)) place all_rules ∙ ap (λ k. drop k all_rules) (first_behind_place 1 number all_rules place d h within))

  -- a call deeper, and the way back from it
  deeper_some : (left more : ℕ) → more ≡ suc left → deeper_walk more q seen ≡ Some (walk (deeper_walk left q seen) q seen)
  unfolding deeper_walk
  deeper_some left more is = rw is refl

  back_some : (left more number : ℕ) (callers : List ℕ) → more ≡ suc left
      → way_back left q seen (number ∷ callers) ≡ Some (walk (deeper_walk more q seen) q seen (number + 1) all_rules callers (way_back more q seen callers))
  unfolding way_back
  back_some left more number callers is = rw is refl

  one_more : (callers : List ℕ) (number : ℕ) → length callers < 16 → calls_left callers ≡ suc (calls_left (number ∷ callers))
  one_more callers number lt = omega arith

  -- the evaluation goes on behind the last call
  pub walk_returns : (number : ℕ) (callers : List ℕ) → length callers < 16
      → way_back (calls_left (number ∷ callers)) q seen (number ∷ callers) ≡ Some (walk_from q seen callers (drop (first_from (number + 1) all_rules) all_rules) 0)
  walk_returns number callers lt =
      back_some (calls_left (number ∷ callers)) (calls_left callers) number callers (one_more callers number lt)
      ∙ ap (λ (trace : Trace). Some trace) (walk_skips _ q seen (number + 1) all_rules callers _)

  -- behind a rule's own place, and behind all of its number, stands the same
  pub walk_behind : (callers : List ℕ) (place : ℕ) (rule : Rule) → AscendsFrom 1 all_rules → place < length all_rules → get_or all_rules place rule ≡ rule
      → walk_from q seen callers (drop (place + 1) all_rules) (rule.number + 1) ≡ walk_from q seen callers (drop (first_from (rule.number + 1) all_rules) all_rules) 0
  walk_behind callers place rule h within is =
      let later : place < first_from ((get_or all_rules place rule).number + 1) all_rules = behind 1 all_rules place rule h within in
      let same : first_from ((get_or all_rules place rule).number + 1) all_rules ≡ first_from (rule.number + 1) all_rules = ap (λ (r : Rule). first_from (r.number + 1) all_rules) is in
      let most : max (place + 1) (first_from (rule.number + 1) all_rules) ≡ first_from (rule.number + 1) all_rules = omega arith in
      walk_jumps callers (place + 1) (rule.number + 1) rule h (omega arith) ∙ ap (λ k. walk_from q seen callers (drop k all_rules) 0) most

  -- the evaluation goes on within the call
  pub walk_calls : (callers : List ℕ) (place number : ℕ) (rule : Rule) → AscendsFrom 1 all_rules → place < length all_rules → get_or all_rules place rule ≡ rule → length callers < 16
      → call_from q (deeper_walk (calls_left callers) q seen) number rule (walk_from q seen callers (drop (place + 1) all_rules)) callers
      ≡ walk_from q seen (rule.number ∷ callers) (drop (first_from number all_rules) all_rules) 0
  walk_calls callers place number rule h within is lt =
      let deeper = deeper_some (calls_left (rule.number ∷ callers)) (calls_left callers) (one_more callers rule.number lt) in
      let back = walk_returns rule.number callers lt in
      let next = walk_behind callers place rule h within is in
      ap (λ (deeper : Option Walk). call_from q deeper number rule (walk_from q seen callers (drop (place + 1) all_rules)) callers) deeper
      ∙ ap (λ (trace : Trace). walk (deeper_walk (calls_left (rule.number ∷ callers)) q seen) q seen number all_rules (rule.number ∷ callers) (Some trace)) next
      ∙ ap (λ (back : Option Trace). walk (deeper_walk (calls_left (rule.number ∷ callers)) q seen) q seen number all_rules (rule.number ∷ callers) back) (sym back)
      ∙ walk_skips _ q seen number all_rules (rule.number ∷ callers) _

  -- where sixteen calls are open no call is made
  pub walk_stays : (callers : List ℕ) (number : ℕ) (rule : Rule) (next : ℕ → Trace) → 16 ≤ length callers
      → call_from q (deeper_walk (calls_left callers) q seen) number rule next callers ≡ next 0
  unfolding deeper_walk
  walk_stays callers number rule next full = let none : calls_left callers ≡ 0 = omega arith in rw none refl

  -- a call that may not be made
  pub call_full : (rule : Rule) (next : ℕ → Trace) (callers : List ℕ) (back : Option Trace) (action : Action) → IsCall action → 16 ≤ length callers
      → follows q (deeper_walk (calls_left callers) q seen) rule next callers back action ≡ next 0
  call_full rule next callers back Allow is full = absurd is
  call_full rule next callers back Deny is full = absurd is
  call_full rule next callers back Reset is full = absurd is
  call_full rule next callers back (Unreach code) is full = absurd is
  call_full rule next callers back Count is full = absurd is
  call_full rule next callers back (SkipTo number) is full = absurd is
  call_full rule next callers back (Call number) is full = walk_stays callers number rule next full
  call_full rule next callers back Return is full = absurd is
  call_full rule next callers back (CheckState name) is full = absurd is

  -- a call that may be made
  pub call_made : (place : ℕ) (rule : Rule) (callers : List ℕ) (back : Option Trace) (action : Action) → IsCall action → AscendsFrom 1 all_rules → place < length all_rules
      → get_or all_rules place rule ≡ rule → length callers < 16
      → follows q (deeper_walk (calls_left callers) q seen) rule (walk_from q seen callers (drop (place + 1) all_rules)) callers back action
      ≡ walk_from q seen (rule.number ∷ callers) (drop (target all_rules place action) all_rules) 0
  call_made place rule callers back Allow is h within read lt = absurd is
  call_made place rule callers back Deny is h within read lt = absurd is
  call_made place rule callers back Reset is h within read lt = absurd is
  call_made place rule callers back (Unreach code) is h within read lt = absurd is
  call_made place rule callers back Count is h within read lt = absurd is
  call_made place rule callers back (SkipTo number) is h within read lt = absurd is
  call_made place rule callers back (Call number) is h within read lt = walk_calls callers place number rule h within read lt
  call_made place rule callers back Return is h within read lt = absurd is
  call_made place rule callers back (CheckState name) is h within read lt = absurd is

  -- where no call is open `return` is passed over
  pub returns_none : (callers : List ℕ) (next : ℕ → Trace) → callers ≡ [] → return_to (way_back (calls_left callers) q seen callers) next ≡ next 0
  unfolding way_back
  returns_none callers next none = rw none refl

  -- else it goes on behind the last
  pub returns_some : (callers others : List ℕ) (number : ℕ) (next : ℕ → Trace) → callers ≡ number ∷ others → length others < 16
      → return_to (way_back (calls_left callers) q seen callers) next ≡ walk_from q seen others (drop (first_from (number + 1) all_rules) all_rules) 0
  returns_some callers others number next is lt =
      ap (λ (open_calls : List ℕ). return_to (way_back (calls_left open_calls) q seen open_calls) next) is
      ∙ ap (λ (back : Option Trace). return_to back next) (walk_returns number others lt)

  -- an action that goes on behind its place
  pub onward_next : (deeper : Option Walk) (place : ℕ) (rule : Rule) (callers : List ℕ) (back : Option Trace) (action : Action) → IsOnward action → AscendsFrom 1 all_rules → place < length all_rules
      → follows q deeper rule (walk_from q seen callers (drop (place + 1) all_rules)) callers back action ≡ walk_from q seen callers (drop (target all_rules place action) all_rules) 0
  onward_next deeper place rule callers back Allow is h within = absurd is
  onward_next deeper place rule callers back Deny is h within = absurd is
  onward_next deeper place rule callers back Reset is h within = absurd is
  onward_next deeper place rule callers back (Unreach code) is h within = absurd is
  onward_next deeper place rule callers back Count is h within = refl
  onward_next deeper place rule callers back (SkipTo number) is h within = walk_jumps callers (place + 1) number rule h (omega arith)
  onward_next deeper place rule callers back (Call number) is h within = absurd is
  onward_next deeper place rule callers back Return is h within = absurd is
  onward_next deeper place rule callers back (CheckState name) is h within = refl

-- what a rule is to the packet, one question after the other
module _ (q : Question) (seen : Seen) (callers : List ℕ) (rule : Rule) (rest suffix : List Rule) where
  -- a rule of a disabled set is passed over
  pub disabled_passed : suffix ≡ rule ∷ rest → is_disabled q rule ≡ true → walk_from q seen callers suffix 0 ≡ PassesOver (walk_from q seen callers rest 0)
  disabled_passed there is = ap (λ (rules : List Rule). walk_from q seen callers rules 0) there ∙ walk_meets q seen callers rule rest ∙ rw is refl

  looked : is_disabled q rule ≡ false → (flow : Option Flow) → lookup_flow q seen rule ≡ flow
      → walk_from q seen callers (rule ∷ rest) 0
      ≡ looks q (pause_at seen callers (rule ∷ rest)) rule (PassesOver (walk_from q seen callers rest 0)) (acts_before q seen callers rule rest) flow
  looked is flow due =
      walk_meets q seen callers rule rest ∙ rw is refl
      ∙ ap (λ (f : Option Flow). looks q (pause_at seen callers (rule ∷ rest)) rule (PassesOver (walk_from q seen callers rest 0)) (acts_before q seen callers rule rest) f) due

  -- a rule whose lookup is due asks for a state of the packet's flow
  pub looked_asks : suffix ≡ rule ∷ rest → is_disabled q rule ≡ false → (flow : Flow) → lookup_flow q seen rule ≡ Some flow
      → walk_from q seen callers suffix 0 ≡ Stops (WaitsFor (lookup_by q rule flow) (pause_at seen callers suffix))
  looked_asks there is flow due =
      ap (λ (rules : List Rule). walk_from q seen callers rules 0) there ∙ looked is (Some flow) due
      ∙ ap (λ (rules : List Rule). Stops (WaitsFor (lookup_by q rule flow) (pause_at seen callers rules))) (sym there)

  -- a rule without a lookup that is due is tested at once
  pub unlooked_tests : suffix ≡ rule ∷ rest → is_disabled q rule ≡ false → lookup_flow q seen rule ≡ None → walk_from q seen callers suffix 0 ≡ tests_before q seen callers rule rest
  unlooked_tests there is due = ap (λ (rules : List Rule). walk_from q seen callers rules 0) there ∙ looked is None due

  -- a `check-state` that is tested is passed over
  pub check_passed : is_check_state rule.action ≡ true → tests_before q seen callers rule rest ≡ PassesOver (walk_from q seen callers rest 0)
  check_passed is = rw is refl

  -- a rule whose body doesn't hold is passed over
  pub unheld_passed : is_check_state rule.action ≡ false → is_rule_met q rule ≡ false → tests_before q seen callers rule rest ≡ PassesOver (walk_from q seen callers rest 0)
  unheld_passed plain is = rw (plain, is) refl

  -- a rule whose body holds makes its state first, if it makes one
  pub held_installs : is_check_state rule.action ≡ false → is_rule_met q rule ≡ true → tests_before q seen callers rule rest ≡ installs_before q seen callers rule rest
  held_installs plain is = rw (plain, is) refl

  installed : (state : Option StateOpt) (flow : Option Flow) → state_of rule ≡ state → any_flow_of q.packet ≡ flow
      → installs_before q seen callers rule rest
      ≡ installs q (pause_at seen callers (rule ∷ rest)) rule (PassesOver (walk_from q seen callers rest 0)) (acts_before q seen callers rule rest) state flow
  installed state flow made is =
      ap (λ (s : Option StateOpt). installs q (pause_at seen callers (rule ∷ rest)) rule (PassesOver (walk_from q seen callers rest 0)) (acts_before q seen callers rule rest) s (any_flow_of q.packet)) made
      ∙ ap (λ (f : Option Flow). installs q (pause_at seen callers (rule ∷ rest)) rule (PassesOver (walk_from q seen callers rest 0)) (acts_before q seen callers rule rest) state f) is

  -- a rule that makes no state acts
  pub stateless_acts : state_of rule ≡ None → installs_before q seen callers rule rest ≡ acts_before q seen callers rule rest
  stateless_acts made = installed None (any_flow_of q.packet) made refl

  -- a rule that makes a state is passed over at a packet without a flow
  pub flowless_passed : (state : StateOpt) → state_of rule ≡ Some state → any_flow_of q.packet ≡ None → installs_before q seen callers rule rest ≡ PassesOver (walk_from q seen callers rest 0)
  flowless_passed state made is = installed (Some state) None made is

  -- a rule that makes a state asks for it at a packet with a flow
  pub install_asks : suffix ≡ rule ∷ rest → (state : StateOpt) (flow : Flow) → state_of rule ≡ Some state → any_flow_of q.packet ≡ Some flow
      → installs_before q seen callers rule rest ≡ Stops (WaitsFor (install_by q rule state flow) (pause_at seen callers suffix))
  install_asks there state flow made is =
      installed (Some state) (Some flow) made is ∙ ap (λ (rules : List Rule). Stops (WaitsFor (install_by q rule state flow) (pause_at seen callers rules))) (sym there)

  no_state : (b : Bool) (state : Option StateOpt) → (b || is_some state) ≡ false → state ≡ None
  no_state true state is = cc
  no_state false None is = refl
  no_state false (Some state) is = cc

  no_check : (b c : Bool) → (b || c) ≡ false → b ≡ false
  no_check true c is = cc
  no_check false c is = refl

  -- a rule of which the gate told all acts at once
  pub told_acts : suffix ≡ rule ∷ rest → is_disabled q rule ≡ false → IsTold q rule → walk_from q seen callers suffix 0 ≡ acts_before q seen callers rule rest
  told_acts there is told =
      unlooked_tests there is (rw told.plain refl)
      ∙ held_installs (no_check (is_check_state rule.action) (is_some (state_of rule)) told.plain) told.held
      ∙ stateless_acts (no_state (is_check_state rule.action) (state_of rule) told.plain)
