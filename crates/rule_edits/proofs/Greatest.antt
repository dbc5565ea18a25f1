-- The greatest number below 65535 stands last but one.
use Rattle.std.proofs.Common.{◌≡◌, ℕ, suc, ◌-◌, ◌≤◌, ◌<◌, true, false, cond, nat_lt, max, List, [], ◌∷◌, length, get_or, map, refl, ap, ◌∙◌, arith}
use Rattle.fw_rule.specs.declared.rule.Rule.{Rule}
use Rattle.rule_chain.specs.Chain.{AscendsFrom}
use Rattle.rule_edits.specs.Rules.{greatest_number}
use Rattle.rule_chain.proofs.Lists.{map_length, map_get}
use Rattle.rule_chain.proofs.Chains.{number_of_last}

-- of rule 65535 alone the greatest number is 0
pub greatest_alone : (a : ℕ) (r : Rule) → AscendsFrom a (r ∷ []) → greatest_number (r ∷ []) ≡ 0
greatest_alone a r h =
    let above : nat_lt r.number 65535 ≡ false = rw (number_of_last r.counter r h) refl in
    rw above refl

greatest_first : (a : ℕ) (r s : Rule) (rules : List Rule) → AscendsFrom a (r ∷ s ∷ rules) → greatest_number (r ∷ s ∷ rules) ≡ max r.number (greatest_number (s ∷ rules))
greatest_first a r s rules h =
    let below : nat_lt r.number 65535 ≡ true = grind (arith, h.1) in
    rw below refl

greatest_least : (a : ℕ) (r s : Rule) (rules : List Rule) → AscendsFrom a (r ∷ s ∷ rules) → a ≤ greatest_number (r ∷ s ∷ rules)
greatest_least a r s rules h = omega (arith, greatest_first a r s rules h, h.0)

-- the greatest number below 65535 is that of the last rule but one
pub greatest_is : (a : ℕ) (rules : List Rule) (d : Rule) → AscendsFrom a rules → 2 ≤ length rules → greatest_number rules ≡ (get_or rules (length rules - 2) d).number
greatest_is a [] d h two = absurd h
greatest_is a (r ∷ []) d h two = absurd (omega arith)
greatest_is a (r ∷ s ∷ []) d h two =
    let first = greatest_first a r s [] h in
    let alone = greatest_alone r.number s h.2 in
    omega (arith, first, alone)
greatest_is a (r ∷ s ∷ t ∷ rules) d h two =
    let first = greatest_first a r s (t ∷ rules) h in
    let least = greatest_least r.number s t rules h.2 in
    let rest = greatest_is r.number (s ∷ t ∷ rules) d h.2 (omega arith) in
    let place : length (s ∷ t ∷ rules) - 2 ≡ length rules = omega arith in
    let at : length (r ∷ s ∷ t ∷ rules) - 2 ≡ suc (length rules) = omega arith in
    let same : greatest_number (r ∷ s ∷ t ∷ rules) ≡ greatest_number (s ∷ t ∷ rules) = omega (arith, first, least) in
    rw at (same ∙ rest ∙ ap (λ (k : ℕ). (get_or (s ∷ t ∷ rules) k d).number) place)

-- of fewer than two rules the greatest number is 0
pub greatest_short : (a : ℕ) (rules : List Rule) → AscendsFrom a rules → length rules < 2 → greatest_number rules ≡ 0
greatest_short a [] h short = absurd h
greatest_short a (r ∷ []) h short = greatest_alone a r h
greatest_short a (r ∷ s ∷ rules) h short = absurd (omega arith)

-- the greatest number is below 65535
pub greatest_below : (rules : List Rule) → greatest_number rules < 65535
greatest_below [] = omega arith
greatest_below (r ∷ rules) =
    let rest = greatest_below rules in
    elim (nat_lt r.number 65535) as (λ b. nat_lt r.number 65535 ≡ b → cond b (max r.number (greatest_number rules)) (greatest_number rules) < 65535) [
      | true ↦ λ is. grind arith
      | false ↦ λ is. rest
    ] refl

module _ {X : Type 0} (f : X → Rule) where
  -- of fewer than two elements that stand for rules the greatest number is 0
  pub greatest_few : (a : ℕ) (xs : List X) → AscendsFrom a (map f xs) → length xs < 2 → greatest_number (map f xs) ≡ 0
  greatest_few a xs h few = greatest_short a (map f xs) h (let same = map_length f xs in omega arith)

  -- the greatest number below 65535 is that of the last element but one, as a rule
  pub greatest_at : (a : ℕ) (xs : List X) (d : X) → AscendsFrom a (map f xs) → 2 ≤ length xs → greatest_number (map f xs) ≡ (f (get_or xs (length xs - 2) d)).number
  greatest_at a xs d h two =
      let same = map_length f xs in
      let is = greatest_is a (map f xs) (f d) h (omega arith) in
      let place : length (map f xs) - 2 ≡ length xs - 2 = omega arith in
      is ∙ ap (λ (k : ℕ). (get_or (map f xs) k (f d)).number) place ∙ ap (λ (r : Rule). r.number) (map_get f xs (length xs - 2) d (omega arith))
