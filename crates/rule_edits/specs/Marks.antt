-- Numbers beside a mark at each of them.
use Rattle.std.specs.Prelude.{◌≡◌, ℕ, ◌<◌, Bool, false, List, length, slice_index_or}
use Rattle.rule_edits.specs.Rules.{is_among}

-- exactly the numbers that are among these have a mark
pub record AreMarked (numbers : List ℕ) (marks : List Bool) : Type 0 where
  pub size : length marks ≡ 65536
  pub each : (number : ℕ) → number < 65536 → slice_index_or marks number false ≡ is_among numbers number
