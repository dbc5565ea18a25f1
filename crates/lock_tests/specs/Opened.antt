-- A lock as it opens.
use Rattle.std.specs.Prelude.{◌≡◌, ℕ, List}
use Rattle.atomic_table.specs.Seated.{TableId}
use Rattle.rm_table.specs.Meanings.{values_from}
use Rattle.rm_lock.specs.Tokens.{TokenState}

-- these are the tokens of that lock's places from 1 to the count, in order
pub record TokensStandInOrder {E B T L I : Type 0} (count : ℕ) (table : TableId) (tokens : List (TokenState E B T L I)) : Type 0 where
  pub token : ℕ → TokenState E B T L I
  pub lock : (k : ℕ) → (token k).table_id ≡ table
  pub place : (k : ℕ) → (token k).view.place ≡ k
  pub all : tokens ≡ values_from token 1 count
