-- What contracts see of a run's outside.
use Rattle.std.specs.Prelude.{ℕ, List, Option}
use Rattle.fw_base.specs.Pairs.{Pair}

-- Of a library: the list that it tells, its count of faults, and the name that it refused last. Of the sources that
-- it opens: the bytes that they have left, and their counts of faults.
pub record Files (L S : Type 0) : Type 0 where
  pub pairs : L → Option (List Pair)
  pub faults : L → ℕ
  pub refused : L → Option (List ℕ)
  pub left : S → Option (List ℕ)
  pub failures : S → ℕ

-- of a sink: the bytes that were written to it, and its count of faults
pub record Output (K : Type 0) : Type 0 where
  pub written : K → Option (List ℕ)
  pub faults : K → ℕ
