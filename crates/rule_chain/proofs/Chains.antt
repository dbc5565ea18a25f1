-- Rules in number order with rule 65535 at their end: their numbers by place.
use Rattle.std.proofs.Common.{◌≡◌, ℕ, zero, suc, ◌≤◌, ◌<◌, List, [], ◌∷◌, length, get_or, ap, arith}
use Rattle.fw_rule.specs.declared.rule.Rule.{Rule}
use Rattle.rule_chain.specs.Chain.{AscendsFrom}
use Rattle.rule_chain.specs.LastRule.{last_rule}

-- the number of the last rule
pub number_of_last : (k : ℕ) (r : Rule) → r ≡ last_rule k → r.number ≡ 65535
number_of_last k r is = ap (λ (x : Rule). x.number) is

-- numbers ascend by place
from_first : (a : ℕ) (rules : List Rule) (j : ℕ) (d : Rule) → a ≤ 65535 → AscendsFrom a rules → j < length rules → a ≤ (get_or rules j d).number
from_first a [] j d le h within = absurd h
from_first a (r ∷ []) zero d le h within = rw (number_of_last r.counter r h) le
from_first a (r ∷ []) (suc j) d le h within = absurd (omega arith)
from_first a (r ∷ s ∷ rules) zero d le h within = h.0
from_first a (r ∷ s ∷ rules) (suc j) d le h within =
    let rest = from_first r.number (s ∷ rules) j d (omega (arith, h.1)) h.2 (omega arith) in
    omega (arith, h.0, rest)

-- of two rules the one before has no greater number
pub numbers_ascend : (a : ℕ) (rules : List Rule) (i j : ℕ) (d : Rule) → AscendsFrom a rules → i ≤ j → j < length rules → (get_or rules i d).number ≤ (get_or rules j d).number
numbers_ascend a [] i j d h le within = absurd h
numbers_ascend a (r ∷ []) zero zero d h le within = omega arith
numbers_ascend a (r ∷ []) zero (suc j) d h le within = absurd (omega arith)
numbers_ascend a (r ∷ []) (suc i) j d h le within = absurd (omega arith)
numbers_ascend a (r ∷ s ∷ rules) zero zero d h le within = omega arith
numbers_ascend a (r ∷ s ∷ rules) zero (suc j) d h le within = from_first r.number (s ∷ rules) j d (omega (arith, h.1)) h.2 (omega arith)
numbers_ascend a (r ∷ s ∷ rules) (suc i) zero d h le within = absurd (omega arith)
numbers_ascend a (r ∷ s ∷ rules) (suc i) (suc j) d h le within = numbers_ascend r.number (s ∷ rules) i j d h.2 (omega arith) (omega arith)
