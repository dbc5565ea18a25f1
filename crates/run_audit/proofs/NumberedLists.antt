-- Of a list whose numbers rise, those of one number stand between two places.
use Rattle.std.proofs.Common.{◌≡◌, ℕ, zero, suc, ◌+◌, ◌-◌, ◌<◌, ◌≤◌, ◌==◌, Bool, true, false, List, [], ◌∷◌, length, take, drop, get_or, refl, sym, ap, ◌∙◌, subst, arith}
use Rattle.std.specs.List.{filter}
use Rattle.std.specs.List.Sorted.{IsStableByKey, ties, IsPartitionPoint}
use Rattle.std.specs.Ordering.{nat_cmp, is_lt}
use Rattle.std.proofs.lemmas.List.Elements.{filter_agree}
use Rattle.std.proofs.lemmas.List.{get_or-drop, length-drop}
use Rattle.std.proofs.lemmas.Bool.Decides.{nat_tests}
use Rattle.run_audit.specs.declared.numbered.Numbered.{Numbered}
use Rattle.run_audit.specs.Numbering.{number_of, is_numbered}

-- what stands in front and fails is left out
front_fails : {X : Type 0} (p : X → Bool) (e : X) (i : ℕ) (xs : List X) → i ≤ length xs → ((k : ℕ) → k < i → p (get_or xs k e) ≡ false) → filter p (drop i xs) ≡ filter p xs
front_fails p e zero xs within before = refl
front_fails p e (suc i) [] within before = absurd (omega arith)
front_fails p e (suc i) (x ∷ xs) within before =
    let first : p x ≡ false = before 0 (omega arith) in
    rw first (front_fails p e i xs (omega arith) (λ (k : ℕ) (less : k < i). before (suc k) (omega arith)))

-- what stands in front is what passes, where the others fail
front_passes : {X : Type 0} (p : X → Bool) (e : X) (j : ℕ) (xs : List X) → j ≤ length xs → ((k : ℕ) → k < j → p (get_or xs k e) ≡ true)
    → ((k : ℕ) → j ≤ k → k < length xs → p (get_or xs k e) ≡ false) → take j xs ≡ filter p xs
front_passes p e zero [] within inside behind = refl
front_passes p e (suc j) [] within inside behind = absurd (omega arith)
front_passes p e zero (x ∷ xs) within inside behind =
    let first : p x ≡ false = behind 0 (omega arith) (omega arith) in
    rw first (front_passes p e 0 xs (omega arith) (λ (k : ℕ) (less : k < 0). absurd (omega arith)) (λ (k : ℕ) (from : 0 ≤ k) (less : k < length xs). behind (suc k) (omega arith) (omega arith)))
front_passes p e (suc j) (x ∷ xs) within inside behind =
    let first : p x ≡ true = inside 0 (omega arith) in
    rw first (ap (λ (ys : List _). x ∷ ys) (front_passes p e j xs (omega arith) (λ (k : ℕ) (less : k < j). inside (suc k) (omega arith)) (λ (k : ℕ) (from : j ≤ k) (less : k < length xs). behind (suc k) (omega arith) (omega arith))))

ties_same : (at place : ℕ) (one : Numbered) → ties (λ (x y : Numbered). is_lt (nat_cmp (number_of x) (number_of y))) (record { at = at; place = place }) one ≡ is_numbered at one
ties_same at place one = grind (arith, nat_tests)

-- what a stable sort by number keeps
pub same_of_number : (numbered ordered : List Numbered) → IsStableByKey number_of nat_cmp numbered ordered → (at : ℕ) → filter (is_numbered at) ordered ≡ filter (is_numbered at) numbered
same_of_number numbered ordered stable at =
    let one : Numbered = record { at = at; place = 0 } in
    let tie : Numbered → Bool = ties (λ (x y : Numbered). is_lt (nat_cmp (number_of x) (number_of y))) one in
    sym (filter_agree tie (is_numbered at) (ties_same at 0) ordered) ∙ stable one ∙ filter_agree tie (is_numbered at) (ties_same at 0) numbered

no_number : Numbered
no_number = record { at = 0; place = 0 }

equal_tests : (n at : ℕ) → n < at → (n == at) ≡ false
equal_tests n at less = grind (arith, nat_tests)

greater_tests : (n at : ℕ) → at < n → (n == at) ≡ false
greater_tests n at less = grind (arith, nat_tests)

same_tests : (n at : ℕ) → at ≤ n → n ≤ at → (n == at) ≡ true
same_tests n at from up = grind (arith, nat_tests)

-- what stands between the two counts is of this number
pub between_counts : (at : ℕ) (xs : List Numbered) (i j : ℕ) → i ≤ length xs → j ≤ length (drop i xs)
    → IsPartitionPoint (λ one. number_of one < at) (λ one. at ≤ number_of one) xs i
    → IsPartitionPoint (λ one. number_of one ≤ at) (λ one. at < number_of one) (drop i xs) j
    → take j (drop i xs) ≡ filter (is_numbered at) xs
between_counts at xs i j first second below within =
    front_passes (is_numbered at) no_number j (drop i xs) second
    (λ (k : ℕ) (less : k < j). same_tests _ at (from_below k (omega arith)) (within.0 k no_number (omega arith) less))
    (λ (k : ℕ) (from : j ≤ k) (less : k < length (drop i xs)). greater_tests _ at (within.1 k no_number from less))
    ∙ front_fails (is_numbered at) no_number i xs first (λ (k : ℕ) (less : k < i). equal_tests _ at (below.0 k no_number (omega arith) less))
  where
    from_below : (k : ℕ) → k < length (drop i xs) → at ≤ number_of (get_or (drop i xs) k no_number)
    from_below k less =
        let shorter : length (drop i xs) ≡ length xs - i = length-drop i xs in
        let there : at ≤ number_of (get_or xs (i + k) no_number) = below.1 (i + k) no_number (omega arith) (omega arith) in
        subst (λ (one : Numbered). at ≤ number_of one) (sym (get_or-drop i xs k no_number)) there
