-- An insertion at the place that a search in number order finds.
use Rattle.std.proofs.Common.{◌≡◌, ℕ, zero, suc, ◌≤◌, ◌<◌, true, false, nat_lt, List, [], ◌∷◌, map, length, get_or, refl, ap, arith}
use Rattle.std.specs.List.{insert}
use Rattle.fw_rule.specs.declared.rule.Rule.{Rule}
use Rattle.rule_edits.specs.Rules.{insert_rule}

module _ {X : Type 0} (f : X → Rule) where
  -- inserting an element where the search ends inserts its rule in number order
  pub insert_at : (xs : List X) (x : X) (i : ℕ) → i ≤ length xs
      → ((k : ℕ) (d : X) → k < i → (f (get_or xs k d)).number ≤ (f x).number)
      → ((d : X) → i < length xs → (f x).number < (f (get_or xs i d)).number)
      → map f (insert xs i x) ≡ insert_rule (f x) (map f xs)
  unfolding insert_rule
  insert_at [] x zero within low high = refl
  insert_at [] x (suc i) within low high = absurd (omega arith)
  insert_at (y ∷ xs) x zero within low high =
      let first : nat_lt (f x).number (f y).number ≡ true = let h = high y (omega arith) in grind arith in
      rw first refl
  insert_at (y ∷ xs) x (suc i) within low high =
      let first : nat_lt (f x).number (f y).number ≡ false = let h = low 0 y (omega arith) in grind arith in
      let rest = insert_at xs x i (omega arith) (λ k d less. low (suc k) d (omega arith)) (λ d less. high d (omega arith)) in
      rw first (ap (λ (rules : List Rule). f y ∷ rules) rest)
