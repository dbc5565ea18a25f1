-- The place behind the elements up to a number, where their numbers ascend.
use Rattle.std.specs.Prelude.{ℕ, ◌<◌, ◌≤◌, List, length, slice_index_or}

module _ {X : Type 0} (number_of : X → ℕ) where
  -- exactly the elements before the place have the number or a lower one
  pub record IsPlaceBehind (xs : List X) (number place : ℕ) : Type 0 where
    pub within : place ≤ length xs
    pub lower : (k : ℕ) (d : X) → k < place → number_of (slice_index_or xs k d) ≤ number
    pub higher : (k : ℕ) (d : X) → place ≤ k → k < length xs → number < number_of (slice_index_or xs k d)
