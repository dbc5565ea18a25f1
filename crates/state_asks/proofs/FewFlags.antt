-- The flags that a state keeps.
use Rattle.std.proofs.Common.{ℕ, ◌<◌, arith}
use Rattle.std.proofs.lemmas.Nat.{and_le_r}
use Rattle.state_asks.specs.Flags.{kept_flags}

-- an ask with the flags that a state keeps has no others
pub few_flags : (flags : ℕ) → kept_flags flags < 8
few_flags flags = omega (arith, and_le_r flags 7)
