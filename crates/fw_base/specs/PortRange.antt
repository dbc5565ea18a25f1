-- A range of ports, as contracts see it.
use Rattle.std.specs.Prelude.{ℕ}

-- the ports from low to high, both among them
pub record Ports : Type 0 where
  pub low : ℕ
  pub high : ℕ
