-- Sums that stand still at the greatest number.
use Rattle.std.proofs.Common.{◌≡◌, ℕ, ◌+◌, ◌<◌, ◌≤◌, List, length, get_or, take, sym, ap, ◌∙◌, arith, min, inl, inr}
use Rattle.std.specs.Prelude.{sum_by}
use Rattle.std.proofs.Math.Nat.{min-eq_left, min-eq_right}
use Rattle.std.proofs.lemmas.Bool.{cases_lt}
use Rattle.std.proofs.lemmas.List.Sums.{sum_by_more}

-- one number more, whether or not the sum stands still already
pub capped_more : (most a b : ℕ) → min (min a most + b) most ≡ min (a + b) most
capped_more most a b = elim (cases_lt most a) [
  | inr less ↦ ap (λ n. min (n + b) most) (min-eq_left less)
  | inl past ↦
      let more : most ≤ a = omega (arith, past) in
      let still : min a most ≡ most = min-eq_right more in
      ap (λ n. min (n + b) most) still ∙ min-eq_right (omega arith) ∙ sym (min-eq_right (omega (arith, more)))
]

-- the sum over one element more
pub capped_sum_more : {X : Type 0} (f : X → ℕ) (most : ℕ) (xs : List X) (at : ℕ) (d : X) → at < length xs
    → min (min (sum_by f (take at xs)) most + f (get_or xs at d)) most ≡ min (sum_by f (take (at + 1) xs)) most
capped_sum_more f most xs at d within =
    capped_more most (sum_by f (take at xs)) (f (get_or xs at d)) ∙ ap (λ n. min n most) (sym (sum_by_more f xs at d within))
