-- Fresh counter numbers, one rule after the other.
use Rattle.std.proofs.Common.{◌≡◌, ℕ, ◌+◌, Bool, true, false, cond, List, [], ◌∷◌, ◌++◌, map, length, refl, ap, arith}
use Rattle.std.specs.List.{filter}
use Rattle.fw_rule.specs.declared.rule.Rule.{Rule}
use Rattle.rule_edits.specs.Rules.{renumber, count_of}

module _ {X : Type 0} (test : Rule → Bool) (f : X → Rule) where
  -- a rule more that passes the test is counted
  pub count_fresh : (xs : List X) (x : X) → test (f x) ≡ true → count_of test (map f (xs ++ x ∷ [])) ≡ count_of test (map f xs) + 1
  count_fresh [] x passes = rw passes (omega arith)
  count_fresh (y ∷ xs) x passes =
      let rest = count_fresh xs x passes in
      elim (test (f y)) as (λ b. length (cond b (f y ∷ filter test (map f (xs ++ x ∷ []))) (filter test (map f (xs ++ x ∷ [])))) ≡ length (cond b (f y ∷ filter test (map f xs)) (filter test (map f xs))) + 1) [ true ↦ omega arith | false ↦ rest ]

  -- a rule more that doesn't pass the test isn't counted
  pub count_same : (xs : List X) (x : X) → test (f x) ≡ false → count_of test (map f (xs ++ x ∷ [])) ≡ count_of test (map f xs)
  count_same [] x fails = rw fails refl
  count_same (y ∷ xs) x fails =
      let rest = count_same xs x fails in
      elim (test (f y)) as (λ b. length (cond b (f y ∷ filter test (map f (xs ++ x ∷ []))) (filter test (map f (xs ++ x ∷ [])))) ≡ length (cond b (f y ∷ filter test (map f xs)) (filter test (map f xs)))) [ true ↦ omega arith | false ↦ rest ]

  numbered : ℕ → Rule → Rule
  numbered n r = record r { counter = n }

  -- a rule more that passes the test gets the next counter number
  pub fresh : (n m : ℕ) (xs : List X) (x : X) → test (f x) ≡ true → m ≡ n + count_of test (map f xs)
      → renumber test n (map f (xs ++ x ∷ [])) ≡ renumber test n (map f xs) ++ record (f x) { counter = m } ∷ []
  unfolding renumber numbered
  fresh n m [] x passes is =
      let same : n ≡ m = omega arith in
      rw passes (ap (λ (k : ℕ). numbered k (f x) ∷ []) same)
  fresh n m (y ∷ xs) x passes is =
      elim (test (f y)) as (λ b. m ≡ n + length (cond b (f y ∷ filter test (map f xs)) (filter test (map f xs))) → cond b (record (f y) { counter = n } ∷ renumber test (n + 1) (map f (xs ++ x ∷ []))) (f y ∷ renumber test n (map f (xs ++ x ∷ [])))
      ≡ cond b (record (f y) { counter = n } ∷ renumber test (n + 1) (map f xs)) (f y ∷ renumber test n (map f xs)) ++ record (f x) { counter = m } ∷ []) [
        | true ↦ λ more. ap (λ (l : List Rule). numbered n (f y) ∷ l) (fresh (n + 1) m xs x passes (omega arith))
        | false ↦ λ more. ap (λ (l : List Rule). f y ∷ l) (fresh n m xs x passes more)
      ] is

  -- a rule more that doesn't pass the test stays as it is
  pub same : (n : ℕ) (xs : List X) (x : X) → test (f x) ≡ false → renumber test n (map f (xs ++ x ∷ [])) ≡ renumber test n (map f xs) ++ f x ∷ []
  unfolding renumber numbered
  same n [] x fails = rw fails refl
  same n (y ∷ xs) x fails =
      elim (test (f y)) as (λ b. cond b (record (f y) { counter = n } ∷ renumber test (n + 1) (map f (xs ++ x ∷ []))) (f y ∷ renumber test n (map f (xs ++ x ∷ [])))
      ≡ cond b (record (f y) { counter = n } ∷ renumber test (n + 1) (map f xs)) (f y ∷ renumber test n (map f xs)) ++ f x ∷ []) [
        | true ↦ ap (λ (l : List Rule). numbered n (f y) ∷ l) (same (n + 1) xs x fails)
        | false ↦ ap (λ (l : List Rule). f y ∷ l) (same n xs x fails)
      ]
