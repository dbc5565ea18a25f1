-- The names that a library tells, each with its bytes.
use Rattle.std.specs.Prelude.{◌≡◌, ℕ, Bool, List, [], ◌∷◌, Option, None, Some, ⊤, MatchOption, nat_eq, if◌then◌else◌}
use Rattle.std.specs.Cmp.Lexicographic.{pointwise}
use Rattle.std.specs.Option.{option_map}

-- a name and the bytes that stand under it
abbrev pub Pair : Type 0
Pair = List ℕ × List ℕ

-- the first element that passes, and the others in their order
abbrev pub take_first : {X : Type 0} → (X → Bool) → List X → Option (X × List X)
take_first test [] = None
take_first test (x ∷ xs) = if test x then Some (x, xs) else option_map (λ found. (found.0, x ∷ found.1)) (take_first test xs)

-- the first pair of that name, and the others in their order
abbrev pub take_named : List ℕ → List Pair → Option (Pair × List Pair)
take_named name = take_first (λ p. pointwise nat_eq p.0 name)

-- an opening takes the first pair of that name out of the told list, and its reader has the pair's bytes left
abbrev pub TakesOut : Option (List Pair) → Option (List Pair) → List ℕ → Option (List ℕ) → Type 0
TakesOut None new name left = ⊤
TakesOut (Some pairs) new name left = MatchOption (take_named name pairs) ⊥ (λ found. (left ≡ Some found.0.1) × (new ≡ Some found.1))
