-- Small sums, as definitions and steps count them.
use Rattle.std.proofs.Common.{◌≡◌, ℕ, ◌+◌, suc, arith}

-- one more counted with the first number, or with what is behind it, comes to the same
pub further : (k n : ℕ) → k + 1 + n ≡ k + suc n
further k n = omega arith
