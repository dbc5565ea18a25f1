-- Identities in order.
use Rattle.std.proofs.Common.{◌≡◌, ◌≢◌, ℕ, zero, suc, ◌+◌, ◌≤◌, ◌<◌, true, false, ◌==◌, nat_lt, List, [], ◌∷◌, length, get_or, refl, ap, sym, ◌∙◌, arith}
use Rattle.std.proofs.lemmas.Bool.Decides.{nat_tests}
use Rattle.std.proofs.lemmas.Bool.{and_parts}
use Rattle.state_asks.specs.Facts.{rises_from, is_rule_list}
use Rattle.state_asks.specs.RuleLists.{has_id}

-- numbers that rise strictly rise from the first on
rising : (first : ℕ) (ids : List ℕ) → ((k : ℕ) → k < length ids → get_or (first ∷ ids) k 0 < get_or ids k 0) → rises_from first ids ≡ true
rising first [] up = refl
rising first (id ∷ ids) up =
    let less : nat_lt first id ≡ true = let h = up 0 (omega arith) in grind (arith, nat_tests) in
    let rest = rising id ids (λ k within. up (suc k) (omega arith)) in
    rw (less, rest) refl

-- each is above the least
above : (least : ℕ) (ids : List ℕ) (k : ℕ) → rises_from least ids ≡ true → k < length ids → least < get_or ids k 0
above least [] k up within = absurd (omega arith)
above least (id ∷ ids) zero up within =
    let first = (and_parts (nat_lt least id) (rises_from id ids) up).0 in
    grind (arith, nat_tests)
above least (id ∷ ids) (suc k) up within =
    let steps = and_parts (nat_lt least id) (rises_from id ids) up in
    let rest = above id ids k steps.1 (omega arith) in
    let first : least < id = let h = steps.0 in grind (arith, nat_tests) in
    omega (arith, first, rest)

-- none of them is 0
not_zero : (least : ℕ) (ids : List ℕ) → rises_from least ids ≡ true → has_id ids 0 ≡ false
not_zero least [] up = refl
not_zero least (id ∷ ids) up =
    let steps = and_parts (nat_lt least id) (rises_from id ids) up in
    let other : (id == 0) ≡ false = let h = steps.0 in grind (arith, nat_tests) in
    rw other (not_zero id ids steps.1)

-- identities that rise strictly, 0 among them, are those of a publication
pub rule_list : (ids : List ℕ) → ((k : ℕ) → k + 1 < length ids → get_or ids k 0 < get_or ids (k + 1) 0) → has_id ids 0 ≡ true → is_rule_list ids ≡ true
rule_list [] up has = has
rule_list (id ∷ ids) up has =
    let steps : (k : ℕ) → k < length ids → get_or (id ∷ ids) k 0 < get_or ids k 0 = λ k within. let h = up k (omega arith) in grind arith in
    let rest = rising id ids steps in
    let none = not_zero id ids rest in
    let first : (id == 0) ≡ true = grind arith in
    let is : id ≡ 0 = grind (arith, nat_tests) in
    let from_zero : rises_from 0 ids ≡ true = ap (λ least. rises_from least ids) (sym is) ∙ rest in
    rw (first, from_zero) refl

-- those of a publication don't fall
pub not_falling : (ids : List ℕ) (i j : ℕ) → is_rule_list ids ≡ true → i ≤ j → j < length ids → get_or ids i 0 ≤ get_or ids j 0
not_falling [] i j is le within = absurd (omega arith)
not_falling (id ∷ ids) i j is le within =
    let steps = and_parts (id == 0) (rises_from 0 ids) is in
    let first : id ≡ 0 = let h = steps.0 in grind (arith, nat_tests) in
    each id ids i j first steps.1 le within
  where
    later : (least : ℕ) (ids : List ℕ) (i j : ℕ) → rises_from least ids ≡ true → i ≤ j → j < length ids → get_or ids i 0 ≤ get_or ids j 0
    later least [] i j up le within = absurd (omega arith)
    later least (id ∷ ids) zero zero up le within = omega arith
    later least (id ∷ ids) (suc i) zero up le within = absurd (omega arith)
    later least (id ∷ ids) zero (suc j) up le within =
        let h = above id ids j (and_parts (nat_lt least id) (rises_from id ids) up).1 (omega arith) in
        omega (arith, h)
    later least (id ∷ ids) (suc i) (suc j) up le within = later id ids i j (and_parts (nat_lt least id) (rises_from id ids) up).1 (omega arith) (omega arith)

    each : (id : ℕ) (ids : List ℕ) (i j : ℕ) → id ≡ 0 → rises_from 0 ids ≡ true → i ≤ j → j < length (id ∷ ids) → get_or (id ∷ ids) i 0 ≤ get_or (id ∷ ids) j 0
    each id ids zero j first up le within = omega (arith, first)
    each id ids (suc i) zero first up le within = absurd (omega arith)
    each id ids (suc i) (suc j) first up le within = later 0 ids i j up (omega arith) (omega arith)

-- an identity that is none of them
pub no_id : (ids : List ℕ) (id : ℕ) → ((k : ℕ) → k < length ids → get_or ids k 0 ≢ id) → has_id ids id ≡ false
no_id [] id none = refl
no_id (other ∷ ids) id none =
    let unlike : (other == id) ≡ false = let h = none 0 (omega arith) in grind (arith, nat_tests) in
    rw unlike (no_id ids id (λ k within. none (suc k) (omega arith)))

-- one between those below it and those above it is none of them
pub not_among : (ids : List ℕ) (id i : ℕ) → ((k : ℕ) → k < i → get_or ids k 0 < id) → ((k : ℕ) → i ≤ k → k < length ids → id < get_or ids k 0) → has_id ids id ≡ false
not_among ids id i low high = no_id ids id (λ k within same. unlike k (low k) (λ from. high k from within) same)
  where
    unlike : (k : ℕ) → (k < i → get_or ids k 0 < id) → (i ≤ k → id < get_or ids k 0) → get_or ids k 0 ≡ id → ⊥
    unlike k low high same = grind arith
