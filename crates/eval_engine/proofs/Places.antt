-- Places of rules in number order.
use Rattle.std.proofs.Common.{◌≡◌, ℕ, ◌+◌, ◌-◌, ◌≤◌, ◌<◌, Bool, true, false, max, nat_lt, not, List, length, get_or, drop, refl, arith, length-drop}
use Rattle.std.proofs.lemmas.List.{get_or-drop}
use Rattle.std.proofs.lemmas.List.Sums.{position_or_len_is, fails_before_first, passes_at_first, prefix_len-le-length}
use Rattle.fw_rule.specs.declared.rule.Rule.{Rule}
use Rattle.generation_store.specs.Jumps.{is_from, first_from}
use Rattle.rule_chain.specs.Chain.{AscendsFrom}
use Rattle.rule_chain.proofs.Chains.{numbers_ascend}

from_number : (n : ℕ) (rule : Rule) → is_from n rule ≡ true → n ≤ rule.number
from_number n rule is = grind arith

number_from : (n : ℕ) (rule : Rule) → n ≤ rule.number → is_from n rule ≡ true
number_from n rule le = grind arith

-- the first rule numbered so or higher is within the list or at its end
pub first_within : (n : ℕ) (rules : List Rule) → first_from n rules ≤ length rules
first_within n rules = prefix_len-le-length (λ rule. not (is_from n rule)) rules

-- no rule of a greater number stands up to its place
pub behind : (least : ℕ) (rules : List Rule) (place : ℕ) (d : Rule) → AscendsFrom least rules → place < length rules
    → place < first_from ((get_or rules place d).number + 1) rules
behind least rules place d h within = go (nat_lt place first) refl
  where
    first : ℕ
    first = first_from ((get_or rules place d).number + 1) rules

    go : (b : Bool) → nat_lt place first ≡ b → place < first
    go true is = grind arith
    go false is =
        let le : first ≤ place = grind arith in
        let there = from_number _ (get_or rules first d) (passes_at_first (is_from ((get_or rules place d).number + 1)) rules d (omega arith)) in
        let up = numbers_ascend least rules first place d h le within in
        absurd (omega arith)

-- the first rule numbered so or higher behind a place
pub first_behind_place : (least n : ℕ) (rules : List Rule) (place : ℕ) (d : Rule) → AscendsFrom least rules → place ≤ length rules
    → place + first_from n (drop place rules) ≡ max place (first_from n rules)
first_behind_place least n rules place d h within =
    let le = first_within n rules in
    let size = length-drop place rules in
    let is = position_or_len_is (is_from n) (drop place rules) (max place first - place) d (omega arith) fails passes in
    omega (arith, is)
  where
    first : ℕ
    first = first_from n rules

    fails : (k : ℕ) → k < max place first - place → is_from n (get_or (drop place rules) k d) ≡ false
    fails k lt = rw (get_or-drop place rules k d) (fails_before_first (is_from n) rules (place + k) d (omega arith))

    passes : max place first - place < length (drop place rules) → is_from n (get_or (drop place rules) (max place first - place) d) ≡ true
    passes lt =
        let size = length-drop place rules in
        let there = from_number n (get_or rules first d) (passes_at_first (is_from n) rules d (omega arith)) in
        let up = numbers_ascend least rules first (place + (max place first - place)) d h (omega arith) (omega arith) in
        rw (get_or-drop place rules (max place first - place) d) (number_from n (get_or rules (place + (max place first - place)) d) (omega arith))
