-- Whether a number stands in a list whose numbers ascend: just before the place behind it.
use Rattle.std.proofs.Common.{◌≡◌, ◌≢◌, ℕ, zero, suc, ◌-◌, ◌≤◌, ◌<◌, Bool, true, false, nat_eq, List, [], ◌∷◌, length, get_or, refl, sym, ap, inl, inr, arith}
use Rattle.std.specs.Prelude.{◌==◌}
use Rattle.std.specs.List.{list_any}
use Rattle.std.proofs.lemmas.Bool.{cases_order, or_right}
use Rattle.std.proofs.lemmas.Bool.Decides.{nat_tests}
use Rattle.rule_edits.specs.Behind.{IsPlaceBehind}

none_passes : {X : Type 0} (p : X → Bool) (xs : List X) → ((k : ℕ) (d : X) → k < length xs → p (get_or xs k d) ≡ false) → list_any p xs ≡ false
none_passes p [] fails = refl
none_passes p (x ∷ xs) fails =
    let first : p x ≡ false = fails 0 x (omega arith) in
    rw first (none_passes p xs (λ k d within. fails (suc k) d (omega arith)))

one_passes : {X : Type 0} (p : X → Bool) (xs : List X) (k : ℕ) (d : X) → k < length xs → p (get_or xs k d) ≡ true → list_any p xs ≡ true
one_passes p [] k d within is = absurd (omega arith)
one_passes p (x ∷ xs) zero d within is = rw is refl
one_passes p (x ∷ xs) (suc k) d within is = let rest = one_passes p xs k d (omega arith) is in rw rest (or_right (p x) true refl)

differ : (a b : ℕ) → a ≢ b → (a == b) ≡ false
differ a b other = grind (arith, nat_tests)

same_number : (a b : ℕ) → nat_eq a b ≡ true → a ≡ b
same_number a b is = grind (arith, nat_tests)

other_number : (a b : ℕ) → nat_eq a b ≡ false → a ≢ b
other_number a b is same = grind (arith, nat_tests)

get_or_default : {X : Type 0} (xs : List X) (k : ℕ) (d e : X) → k < length xs → get_or xs k d ≡ get_or xs k e
get_or_default [] k d e within = absurd (omega arith)
get_or_default (x ∷ xs) zero d e within = refl
get_or_default (x ∷ xs) (suc k) d e within = get_or_default xs k d e (omega arith)

agree : (a b : ℕ) → a ≡ b → (a == b) ≡ true
agree a b same = grind (arith, nat_tests)

module _ {X : Type 0} (number_of : X → ℕ) (xs : List X) (number place : ℕ) (behind : IsPlaceBehind number_of xs number place) where
  -- before the first place no element has it
  pub hasnt_any : place ≡ 0 → list_any (λ x. number_of x == number) xs ≡ false
  hasnt_any first = none_passes (λ x. number_of x == number) xs (λ k d inside. differ _ _ (λ is. let high = behind.higher k d (omega arith) inside in absurd (omega arith)))

  has_before : (d : X) → 0 < place → number_of (get_or xs (place - 1) d) ≡ number → list_any (λ x. number_of x == number) xs ≡ true
  has_before d some is = one_passes (λ x. number_of x == number) xs (place - 1) d (let within = behind.within in omega arith) (agree _ _ is)

  module _ (ascend : (i j : ℕ) (d : X) → i ≤ j → j < length xs → number_of (get_or xs i d) ≤ number_of (get_or xs j d)) where
    hasnt_before : (e : X) → 0 < place → number_of (get_or xs (place - 1) e) ≢ number → list_any (λ x. number_of x == number) xs ≡ false
    hasnt_before e some other = none_passes (λ x. number_of x == number) xs (λ k d inside. differ _ _ (λ is.
        let within = behind.within in
        elim (cases_order k place) [
          | inl same ↦ let high = behind.higher k d (omega arith) inside in absurd (omega arith)
          | inr (inl before) ↦
              let last : get_or xs (place - 1) d ≡ get_or xs (place - 1) e = get_or_default xs (place - 1) d e (omega arith) in
              let up = ascend k (place - 1) d (omega arith) (omega arith) in
              let low = behind.lower (place - 1) d (omega arith) in
              let same = ap number_of last in
              absurd (omega arith)
          | inr (inr after) ↦ let high = behind.higher k d (omega arith) inside in absurd (omega arith)
        ]))

    -- the element before the place tells
    pub asked_before : (e : X) → 0 < place → nat_eq (number_of (get_or xs (place - 1) e)) number ≡ list_any (λ x. number_of x == number) xs
    asked_before e some =
        elim (nat_eq (number_of (get_or xs (place - 1) e)) number) as (λ b. nat_eq (number_of (get_or xs (place - 1) e)) number ≡ b → b ≡ list_any (λ x. number_of x == number) xs) [
          | true ↦ λ is. sym (has_before e some (same_number _ _ is))
          | false ↦ λ is. sym (hasnt_before e some (λ same. other_number _ _ is same))
        ] refl
