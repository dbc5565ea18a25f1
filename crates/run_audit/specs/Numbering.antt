-- Things by the numbers of their records: those of one number are found together, in their order.
use Rattle.std.specs.Prelude.{◌≡◌, ℕ, ◌+◌, Bool, ◌==◌, List, [], ◌∷◌, filter, filter_map, slice_get}
use Rattle.std.specs.List.Sorted.{IsNonDecreasingBy}
use Rattle.run_audit.specs.declared.numbered.Numbered.{Numbered}

-- the number of its record
abbrev pub number_of : Numbered → ℕ
number_of one = one.at

-- it is of the record of this number
abbrev pub is_numbered : ℕ → Numbered → Bool
is_numbered at one = one.at == at

-- these things by their numbers and places, from this place on
abbrev pub numbered_from : {X : Type 0} → (X → ℕ) → ℕ → List X → List Numbered
numbered_from key place [] = []
numbered_from key place (x ∷ xs) = record { at = key x; place = place } ∷ numbered_from key (place + 1) xs

-- the numbers rise, and those of one number are these, in their order
pub record AreInOrderOf (numbered ordered : List Numbered) : Type 0 where
  pub rising : IsNonDecreasingBy number_of ordered
  pub same : (at : ℕ) → filter (is_numbered at) ordered ≡ filter (is_numbered at) numbered

-- the things in these places
abbrev pub picked : {X : Type 0} → List X → List Numbered → List X
picked xs numbered = filter_map (λ one. slice_get xs one.place) numbered
