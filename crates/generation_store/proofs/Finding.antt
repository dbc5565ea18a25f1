-- The first rule numbered so or higher, among rules in number order.
use Rattle.std.proofs.Common.{◌≡◌, ℕ, zero, suc, ◌≤◌, ◌<◌, true, false, nat_lt, List, [], ◌∷◌, map, length, get_or, refl, arith}
use Rattle.std.proofs.lemmas.Bool.Decides.{nat_tests}
use Rattle.fw_rule.specs.declared.rule.Rule.{Rule}
use Rattle.generation_store.specs.Jumps.{is_from, first_from}

module _ {X : Type 0} (f : X → Rule) where
  -- where all before are below the number, and none from there on is
  pub first_at : (number : ℕ) (xs : List X) (i : ℕ) → i ≤ length xs
      → ((k : ℕ) (d : X) → k < i → nat_lt (f (get_or xs k d)).number number ≡ true)
      → ((k : ℕ) (d : X) → i ≤ k → k < length xs → nat_lt (f (get_or xs k d)).number number ≡ false)
      → i ≡ first_from number (map f xs)
  first_at number [] i within low high = omega arith
  first_at number (x ∷ xs) zero within low high =
      let here : is_from number (f x) ≡ true = let h = high 0 x (omega arith) (omega arith) in grind (arith, nat_tests) in
      rw here refl
  first_at number (x ∷ xs) (suc i) within low high =
      let here : is_from number (f x) ≡ false = let h = low 0 x (omega arith) in grind (arith, nat_tests) in
      let rest = first_at number xs i (omega arith) (λ k d less. low (suc k) d (omega arith)) (λ k d from less. high (suc k) d (omega arith) (omega arith)) in
      rw here (omega (arith, rest))
