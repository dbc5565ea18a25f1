-- Where a run goes on, by places.
use Rattle.std.proofs.Common.{◌≡◌, ℕ, ◌+◌, ◌<◌, ◌≤◌, max, Bool, true, false, cond, nat_lt, Some, None, position, length-drop, List, [], length, get_or, drop, refl, ap, sym, ◌∙◌, arith}
use Rattle.std.specs.List.{position_or_len, list_any}
use Rattle.std.proofs.lemmas.List.{drop-drop}
use Rattle.fw_rule.specs.declared.rule.Rule.{Rule}
use Rattle.generation_store.specs.Jumps.{first_from}
use Rattle.rule_chain.specs.Chain.{AscendsFrom}
use Rattle.eval_engine.proofs.Configured.{rule_read}
use Rattle.eval_engine.proofs.Places.{behind, first_behind_place}
use Rattle.eval_engine.specs.Place.{IsRuleAt}
use Rattle.eval_engine.specs.Question.{Question}
use Rattle.eval_engine.proofs.FirstPlaces.{some_place}
use Rattle.evaluation_laws.specs.Runs.{rules_from}

-- behind a place the first rule numbered so or higher
pub skipped : (all : List Rule) (place number : ℕ) (rule : Rule) → AscendsFrom 1 all → place ≤ length all → drop (max place (first_from number all)) all ≡ rules_from number (drop place all)
skipped all place number rule ascends le =
    sym (drop-drop (first_from number (drop place all)) place all ∙ ap (λ k. drop k all) (first_behind_place 1 number all place rule ascends le))

-- behind all rules of the number
pub later_than : (q : Question) (place : ℕ) (rule : Rule) → IsRuleAt q place rule → place < first_from (rule.number + 1) q.edition.config.rules
later_than q place rule at =
    let rules : List Rule = q.edition.config.rules in
    let read = rule_read rules place rule _ at.there in
    let same : first_from ((get_or rules place rule).number + 1) rules ≡ first_from (rule.number + 1) rules = ap (λ (r : Rule). first_from (r.number + 1) rules) read in
    let less : place < first_from ((get_or rules place rule).number + 1) rules = behind 1 rules place rule at.ordered at.within in
    omega arith

by_test : (b : Bool) (n place : ℕ) → cond b (Some n) None ≡ Some place → (b ≡ true) × (n ≡ place)
by_test true n place is = (refl, grind arith)
by_test false n place is = absurd (grind arith)

none_test : (b : Bool) (n : ℕ) → cond b (Some n) None ≡ None → b ≡ false
none_test true n is = absurd (grind arith)
none_test false n is = refl

-- what the place of the first that passes says
pub found_at : (p : Rule → Bool) (rules : List Rule) (place : ℕ) → position p rules ≡ Some place → (list_any p rules ≡ true) × (position_or_len p rules ≡ place)
found_at p rules place is =
    let h = by_test (nat_lt (position_or_len p rules) (length rules)) (position_or_len p rules) place is in (sym (some_place p rules) ∙ h.0, h.1)

-- where no place is found, no rule passes
pub found_nowhere : (p : Rule → Bool) (rules : List Rule) → position p rules ≡ None → list_any p rules ≡ false
found_nowhere p rules is = sym (some_place p rules) ∙ none_test (nat_lt (position_or_len p rules) (length rules)) (position_or_len p rules) is

-- it is no place behind the last
pub found_within : (p : Rule → Bool) (rules : List Rule) (place : ℕ) → position p rules ≡ Some place → drop place rules ≡ [] → ⊥
found_within p rules place is none =
    let h = by_test (nat_lt (position_or_len p rules) (length rules)) (position_or_len p rules) place is in
    let test = h.0 in
    let same = h.1 in
    let less : position_or_len p rules < length rules = grind arith in
    let size = length-drop place rules in
    let empty : length (drop place rules) ≡ 0 = ap (λ (rs : List Rule). length rs) none in
    omega (arith, size, empty, same, less)
