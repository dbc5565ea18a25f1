-- What a caller of a lock of one or two processors knows of their tokens.
use Rattle.std.proofs.Common.{◌≡◌, ℕ, zero, suc, ◌<◌, ◌≤◌, Some, List, [], ◌∷◌, ◌++◌, length, length-append, refl, sym, ◌∙◌, ap, subst, arith}
use Rattle.std.specs.Prelude.{All, slice_get}
use Rattle.atomic_table.specs.Seated.{TableId}
use Rattle.rm_table.specs.Meanings.{values_from}
use Rattle.rm_table.proofs.Base.{all_values}
use Rattle.rm_lock.specs.Tokens.{TokenState}
use Rattle.rm_lock.specs.Ends.{EachOnce}
use Rattle.lock_tests.specs.Opened.{TokensStandInOrder}

module _ {A : Type 0} where
  -- the only one of a list
  last_of_one : (y : A) (others : List A) (x : A) → y ∷ [] ≡ others ++ x ∷ [] → x ≡ y
  last_of_one y [] x e = cc
  last_of_one y (z ∷ zs) x e = let l = ap (λ (ts : List A). length ts) e in let m = length-append zs (x ∷ []) in absurd (omega arith)

  -- the value that is popped off a list of one is the first
  popped_one : (f : ℕ → A) (n : ℕ) (items others : List A) (x : A) → n ≡ 1 → items ≡ values_from f 1 n → items ≡ others ++ x ∷ [] → x ≡ f 1
  popped_one f n items others x one is popped = last_of_one (f 1) others x (sym (is ∙ ap (λ (k : ℕ). values_from f 1 k) one) ∙ popped)

  last_of_two : (a b : A) (others : List A) (y x : A) → a ∷ b ∷ [] ≡ (others ++ y ∷ []) ++ x ∷ [] → (y ≡ a) × (x ≡ b)
  last_of_two a b [] y x e = (cc, cc)
  last_of_two a b (z ∷ zs) y x e = let l = ap (λ (ts : List A). length ts) e in let m = length-append (zs ++ y ∷ []) (x ∷ []) in let k = length-append zs (y ∷ []) in absurd (omega arith)

  -- the values that are popped off a list of two are the second and then the first
  popped_two : (f : ℕ → A) (n : ℕ) (items left others : List A) (y x : A) → n ≡ 2 → items ≡ values_from f 1 n → items ≡ left ++ x ∷ [] → left ≡ others ++ y ∷ [] → (y ≡ f 1) × (x ≡ f 2)
  popped_two f n items left others y x two is popped again =
      last_of_two (f 1) (f 2) others y x (sym (is ∙ ap (λ (k : ℕ). values_from f 1 k) two) ∙ popped ∙ ap (λ (ts : List A). ts ++ x ∷ []) again)

module _ {E B T L I : Type 0} where
  -- tokens by their places, each of them this lock's, are in order
  pub in_order : (table : TableId) (f : ℕ → TokenState E B T L I) (n count : ℕ) (tokens : List (TokenState E B T L I)) → ((k : ℕ) → (f k).table_id ≡ table) → ((k : ℕ) → (f k).view.place ≡ k) → tokens ≡ values_from f 1 n → n ≡ count → TokensStandInOrder count table tokens
  in_order table f n count tokens lock place are is = record { token = f; lock = lock; place = place; all = are ∙ ap (λ (k : ℕ). values_from f 1 k) is }

  -- the tokens of a new lock are all this lock's
  pub all_of_lock : (table : TableId) (count : ℕ) (tokens : List (TokenState E B T L I)) → TokensStandInOrder count table tokens → All (λ p. p.table_id ≡ table) tokens
  all_of_lock table count tokens o = subst (λ (ts : List (TokenState E B T L I)). All (λ p. p.table_id ≡ table) ts) (sym o.all) (all_values (λ (p : TokenState E B T L I). p.table_id ≡ table) o.token 1 count (λ k low high. o.lock k))

  -- the token that is popped off a list of one is of place 1
  pub only_token : (table : TableId) (tokens others : List (TokenState E B T L I)) (p : TokenState E B T L I) → TokensStandInOrder 1 table tokens → tokens ≡ others ++ p ∷ [] → (p.table_id ≡ table) × (p.view.place ≡ 1)
  only_token table tokens others p o popped =
      let is : p ≡ o.token 1 = popped_one o.token 1 tokens others p refl o.all popped in
      (ap (λ (t : TokenState E B T L I). t.table_id) is ∙ o.lock 1, ap (λ (t : TokenState E B T L I). t.view.place) is ∙ o.place 1)

  -- the tokens that are popped off a list of two are of place 2 and then of place 1
  pub both_tokens : (table : TableId) (tokens left others : List (TokenState E B T L I)) (p q : TokenState E B T L I) → TokensStandInOrder 2 table tokens → tokens ≡ left ++ q ∷ [] → left ≡ others ++ p ∷ []
      → ((p.table_id ≡ table) × (p.view.place ≡ 1)) × ((q.table_id ≡ table) × (q.view.place ≡ 2))
  both_tokens table tokens left others p q o popped again =
      let are = popped_two o.token 2 tokens left others p q refl o.all popped again in
      let first : p ≡ o.token 1 = are.0 in
      let second : q ≡ o.token 2 = are.1 in (
        (ap (λ (t : TokenState E B T L I). t.table_id) first ∙ o.lock 1, ap (λ (t : TokenState E B T L I). t.view.place) first ∙ o.place 1),
        (ap (λ (t : TokenState E B T L I). t.table_id) second ∙ o.lock 2, ap (λ (t : TokenState E B T L I). t.view.place) second ∙ o.place 2),
      )

  -- one token of place 1 is each processor's token once, where there is one processor
  pub one_each : (count : ℕ) (p : TokenState E B T L I) (tokens : List (TokenState E B T L I)) → tokens ≡ p ∷ [] → p.view.place ≡ 1 → count ≡ 1 → EachOnce count tokens
  one_each count p tokens are at one = subst (λ (ts : List (TokenState E B T L I)). EachOnce count ts) (sym are) (record {
    all = λ k low high. (0, p, refl, let e : p.view.place ≡ k = omega arith in e);
    within = within;
    once = once;
  })
    where
      within : (j : ℕ) (q : TokenState E B T L I) → slice_get (p ∷ []) j ≡ Some q → (0 < q.view.place) × (q.view.place ≤ count)
      within zero q is = let same : p ≡ q = cc in subst (λ (r : TokenState E B T L I). (0 < r.view.place) × (r.view.place ≤ count)) same (omega arith, omega arith)
      within (suc j) q is = absurd cc

      once : (i j : ℕ) (q r : TokenState E B T L I) → slice_get (p ∷ []) i ≡ Some q → slice_get (p ∷ []) j ≡ Some r → q.view.place ≡ r.view.place → i ≡ j
      once zero zero q r one_is other_is same = refl
      once zero (suc j) q r one_is other_is same = absurd cc
      once (suc i) j q r one_is other_is same = absurd cc

  -- tokens of places 1 and 2 are each processor's token once, where there are two processors
  pub two_each : (count : ℕ) (p s : TokenState E B T L I) (tokens : List (TokenState E B T L I)) → tokens ≡ p ∷ s ∷ [] → p.view.place ≡ 1 → s.view.place ≡ 2 → count ≡ 2 → EachOnce count tokens
  two_each count p s tokens are first second two = subst (λ (ts : List (TokenState E B T L I)). EachOnce count ts) (sym are) (record {
    all = all;
    within = within;
    once = once;
  })
    where
      all : (k : ℕ) → 0 < k → k ≤ count → (j : ℕ) × (q : TokenState E B T L I) × (slice_get (p ∷ s ∷ []) j ≡ Some q) × (q.view.place ≡ k)
      all zero low high = absurd (omega arith)
      all (suc zero) low high = (0, p, refl, first)
      all (suc (suc k)) low high = (1, s, refl, let e : s.view.place ≡ suc (suc k) = omega arith in e)

      within : (j : ℕ) (q : TokenState E B T L I) → slice_get (p ∷ s ∷ []) j ≡ Some q → (0 < q.view.place) × (q.view.place ≤ count)
      within zero q is = let same : p ≡ q = cc in subst (λ (r : TokenState E B T L I). (0 < r.view.place) × (r.view.place ≤ count)) same (omega arith, omega arith)
      within (suc zero) q is = let same : s ≡ q = cc in subst (λ (r : TokenState E B T L I). (0 < r.view.place) × (r.view.place ≤ count)) same (omega arith, omega arith)
      within (suc (suc j)) q is = absurd cc

      apart : (q r : TokenState E B T L I) → p ≡ q → s ≡ r → q.view.place ≡ r.view.place → ⊥
      apart q r p_is s_is same = let a = ap (λ (t : TokenState E B T L I). t.view.place) p_is in let b = ap (λ (t : TokenState E B T L I). t.view.place) s_is in omega arith

      once : (i j : ℕ) (q r : TokenState E B T L I) → slice_get (p ∷ s ∷ []) i ≡ Some q → slice_get (p ∷ s ∷ []) j ≡ Some r → q.view.place ≡ r.view.place → i ≡ j
      once zero zero q r one_is other_is same = refl
      once zero (suc zero) q r one_is other_is same = let one : p ≡ q = cc in let other : s ≡ r = cc in absurd (apart q r one other same)
      once zero (suc (suc j)) q r one_is other_is same = absurd cc
      once (suc zero) zero q r one_is other_is same = let one : p ≡ r = cc in let other : s ≡ q = cc in absurd (apart r q one other (sym same))
      once (suc zero) (suc zero) q r one_is other_is same = refl
      once (suc zero) (suc (suc j)) q r one_is other_is same = absurd cc
      once (suc (suc i)) j q r one_is other_is same = absurd cc
