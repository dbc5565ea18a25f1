-- A reading with a depth, as contracts see it: how many sections of one processor lie in one another, after rmlock(9), RM_RECURSE.
use Rattle.std.specs.Prelude.{ℕ}
use Rattle.rm_lock.specs.Tokens.{TokenState}

-- The reading, and its depth.
pub record DeepState (E B T L I : Type 0) : Type 0 where
  pub reading : TokenState E B T L I
  pub depth : ℕ
