-- The rule in a place of a configuration.
use Rattle.std.proofs.Common.{◌≡◌, ℕ, zero, suc, ◌+◌, ◌≤◌, ◌<◌, true, false, Option, Some, None, List, [], ◌∷◌, length, get_or, drop, drop-cons, refl, ap, sym, ◌∙◌, arith, subst, map, IfSome, Global}
use Rattle.std.specs.declared.sync.Arc.{Arc}
use Rattle.std.specs.Arc.{arc_value}
use Rattle.rule_chain.proofs.Lists.{map_get, map_length}
use Rattle.std.specs.List.{AllByRecursion}
use Rattle.std.proofs.lemmas.List.Folds.{list_any_at}
use Rattle.state_asks.specs.declared.op.FlowName.TheVariants.{Named}
use Rattle.fw_rule.specs.declared.action.Action.{Action}
use Rattle.fw_rule.specs.declared.action.Action.TheVariants.{Allow, Deny, Reset, Unreach, Count, SkipTo, Call, Return, CheckState}
use Rattle.fw_rule.specs.declared.body.Body.{Body}
use Rattle.fw_rule.specs.declared.rule.Rule.{Rule}
use Rattle.fw_rule.specs.declared.state_opt.StateOpt.{StateOpt}
use Rattle.generation_store.specs.Jumps.{jumps_of, jumps_from, jump_of, first_from, is_from}
use Rattle.generation_store.specs.declared.jumps.Jump.{Jump}
use Rattle.generation_store.specs.Published.{is_identity, numbered_name}
use Rattle.rule_chain.specs.Chain.{IsConfiguration, IsRule}
use Rattle.rule_chain.specs.Names.{IsNamed, name_of, number_of_name, state_name}
use Rattle.eval_engine.specs.Encounter.{is_check_state, body_state}
use Rattle.eval_engine.specs.Place.{IsNumbered, IsRuleAt}
use Rattle.eval_engine.specs.Question.{Question}

-- what holds of each element holds of the one in a place
all_at : {X : Type 0} (P : X → Type 0) (xs : List X) (i : ℕ) (d : X) → AllByRecursion P xs → i < length xs → P (get_or xs i d)
all_at P [] i d h lt = absurd (omega arith)
all_at P (x ∷ xs) zero d h lt = h.0
all_at P (x ∷ xs) (suc i) d h lt = all_at P xs i d h.1 (omega arith)

named_below : (names : List (List ℕ)) (name : Option (List ℕ)) → length names ≤ 64 → IfSome name (λ n. number_of_name names n < length names) → IsNumbered (numbered_name names name)
named_below names None few h = tt
named_below names (Some name) few h = omega arith

same_identity : (rule other : Rule) → other ≡ rule → is_identity rule.id other ≡ true
same_identity rule other is = let same : other.id ≡ rule.id = ap (λ (r : Rule). r.id) is in grind arith

-- the rule in a place
pub rule_there : (q : Question) (place : ℕ) (rule : Rule) → IsConfiguration q.edition.config → place < length q.edition.config.rules
    → get_or q.edition.config.rules place rule ≡ rule → IsRuleAt q place rule
rule_there q place rule h within is = record {
  there =
      let next : place + 1 ≡ suc place = omega arith in
      drop-cons q.edition.config.rules place rule within ∙ rw (next, is) refl;
  within = within;
  few = let held = h.held in omega arith;
  counter = subst (λ (r : Rule). r.counter ≤ q.edition.config.greatest_counter) is (all_at (IsRule q.edition.config.greatest_id q.edition.config.greatest_counter) q.edition.config.rules place rule h.rules within).counter;
  named = named_below q.edition.config.names (name_of rule.action rule.body) h.names.few (subst (λ (r : Rule). IsNamed q.edition.config.names r) is (all_at (IsNamed q.edition.config.names) q.edition.config.rules place rule h.named within));
  ordered = h.ordered;
  listed = list_any_at (is_identity rule.id) q.edition.config.rules place rule within (same_identity rule _ is);
}

-- a rule stands where its suffix begins
pub rule_read : (rules : List Rule) (place : ℕ) (rule : Rule) (rest : List Rule) → drop place rules ≡ rule ∷ rest → get_or rules place rule ≡ rule
rule_read [] zero rule rest is = refl
rule_read [] (suc place) rule rest is = refl
rule_read (first ∷ rules) zero rule rest is = ap (λ (suffix : List Rule). get_or suffix 0 rule) is
rule_read (first ∷ rules) (suc place) rule rest is = rule_read rules place rule rest is

-- there are as many jumps as rules
jumps_length : (rules : List Rule) (place : ℕ) (suffix : List Rule) → length (jumps_from rules place suffix) ≡ length suffix
unfolding jumps_from
jumps_length rules place [] = refl
jumps_length rules place (rule ∷ rest) = ap (λ n. suc n) (jumps_length rules (place + 1) rest)

-- each place with a rule has a jump
pub jumps_within : (rules : List Rule) (place : ℕ) → place < length rules → place < length (jumps_of rules)
jumps_within rules place lt = let same = jumps_length rules 0 rules in omega arith

-- the jump in a place is that of its rule
jumps_at : (rules : List Rule) (place : ℕ) (suffix : List Rule) (i : ℕ) (rule : Rule) (d : Jump) → i < length suffix
    → get_or suffix i rule ≡ rule → get_or (jumps_from rules place suffix) i d ≡ jump_of rules (place + i) rule
unfolding jumps_from
jumps_at rules place [] i rule d lt is = absurd (omega arith)
jumps_at rules place (first ∷ rest) zero rule d lt is =
    let same : place + 0 ≡ place = omega arith in rw same (ap (λ (r : Rule). jump_of rules place r) is)
jumps_at rules place (first ∷ rest) (suc i) rule d lt is =
    let same : place + 1 + i ≡ place + suc i = omega arith in
    rw (← same) (jumps_at rules (place + 1) rest i rule d (omega arith) is)

-- the jump at a place is that of the rule there
pub jump_there : (rules : List Rule) (place : ℕ) (rule : Rule) (d : Jump) → place < length rules → get_or rules place rule ≡ rule
    → get_or (jumps_of rules) place d ≡ jump_of rules place rule
jump_there rules place rule d lt is =
    let same : 0 + place ≡ place = omega arith in
    jumps_at rules 0 rules place rule d lt is ∙ rw same refl

above_all : (rules : List Rule) (id counter : ℕ) → AllByRecursion (IsRule id counter) rules → first_from 65536 rules ≡ length rules
above_all [] id counter h = refl
above_all (rule ∷ rules) id counter h =
    let most = h.0.number.most_ge in
    let low : is_from 65536 rule ≡ false = grind arith in
    let rest = above_all rules id counter h.1 in
    rw low (omega (arith, rest))

-- no rule is numbered above 65535
pub none_above : (q : Question) → IsConfiguration q.edition.config → first_from 65536 q.edition.config.rules ≡ length q.edition.config.rules
none_above q h = above_all q.edition.config.rules _ _ h.rules

-- the name that a state gets is the one that its rule looks up
pub state_named : (names : List (List ℕ)) (action : Action) (body : Option Body) (state : StateOpt)
    → is_check_state action ≡ false → body_state body ≡ Some state → numbered_name names (name_of action body) ≡ Named (number_of_name names (state_name state))
state_named names action None state plain made = absurd (grind arith)
state_named names Allow (Some body) state plain made = rw made refl
state_named names Deny (Some body) state plain made = rw made refl
state_named names Reset (Some body) state plain made = rw made refl
state_named names (Unreach code) (Some body) state plain made = rw made refl
state_named names Count (Some body) state plain made = rw made refl
state_named names (SkipTo number) (Some body) state plain made = rw made refl
state_named names (Call number) (Some body) state plain made = rw made refl
state_named names Return (Some body) state plain made = rw made refl
state_named names (CheckState name) (Some body) state plain made = absurd (grind arith)

-- a shared rule is the rule in its place
pub shared_within : (rules : List Rule) (shared : List (Arc Rule Global)) (place : ℕ) → map arc_value shared ≡ rules → place < length shared → place < length rules
shared_within rules shared place are lt =
    let same : length rules ≡ length shared = ap (λ (rs : List Rule). length rs) (sym are) ∙ map_length arc_value shared in
    omega arith

-- what a shared rule holds is the rule in its place
pub shared_there : (rules : List Rule) (shared : List (Arc Rule Global)) (place : ℕ) (here : Arc Rule Global) (rule : Rule) → map arc_value shared ≡ rules → place < length shared
    → here ≡ get_or shared place here → rule ≡ arc_value here → get_or rules place rule ≡ rule
shared_there rules shared place here rule are lt is value =
    ap (λ (rs : List Rule). get_or rs place rule) (sym are)
    ∙ ap (λ (r : Rule). get_or (map arc_value shared) place r) value
    ∙ map_get arc_value shared place here lt
    ∙ ap (λ (x : Arc Rule Global). arc_value x) (sym is)
    ∙ sym value
