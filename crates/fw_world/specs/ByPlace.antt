-- Lanes in the order of their places, of whatever type: a record has what each lane leaves in this order.
use Rattle.std.specs.Prelude.{◌≡◌, ℕ, ◌+◌, ⊤, Some, List, [], ◌∷◌, slice_get}
use Rattle.std.specs.List.Sorted.{IsPermutation}
use Rattle.fw_world.specs.Inputs.{Input}

module _ {A : Type 0} where
  module _ (place : A → ℕ) where
    -- This order has those lanes, each once, and the lane at index i has the place `first` + i. At most one order is
    -- so: a law (src/laws.rt).
    pub record StandFrom (first : ℕ) (lanes ordered : List A) : Type 0 where
      pub same : IsPermutation lanes ordered
      pub placed : (i : ℕ) (lane : A) → slice_get ordered i ≡ Some lane → place lane ≡ first + i

    -- the lanes are such ones, the first has this place, and each other one the next place
    abbrev pub HavePlacesFrom : (A → Type 0) → ℕ → List A → Type 0
    HavePlacesFrom IsOne first [] = ⊤
    HavePlacesFrom IsOne first (lane ∷ lanes) = (place lane ≡ first) × IsOne lane × HavePlacesFrom IsOne (first + 1) lanes

  -- to each lane its inputs have this relation
  abbrev pub EachWith : (A → List Input → Type 0) → List A → List (List Input) → Type 0
  EachWith Has [] [] = ⊤
  EachWith Has [] (inputs ∷ others) = ⊥
  EachWith Has (lane ∷ lanes) [] = ⊥
  EachWith Has (lane ∷ lanes) (inputs ∷ others) = Has lane inputs × EachWith Has lanes others
