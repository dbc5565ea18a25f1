-- Lists under a view of their elements.
use Rattle.std.proofs.Common.{◌≡◌, ℕ, zero, suc, ◌<◌, List, [], ◌∷◌, map, length, get_or, refl, ap, arith}

-- there are as many views as elements
pub map_length : {X Y : Type 0} (f : X → Y) (xs : List X) → length (map f xs) ≡ length xs
map_length f [] = refl
map_length f (x ∷ xs) = ap suc (map_length f xs)

-- the view at a place is that of the element there
pub map_get : {X Y : Type 0} (f : X → Y) (xs : List X) (k : ℕ) (d : X) → k < length xs → get_or (map f xs) k (f d) ≡ f (get_or xs k d)
map_get f [] k d within = absurd (omega arith)
map_get f (x ∷ xs) zero d within = refl
map_get f (x ∷ xs) (suc k) d within = map_get f xs k d (omega arith)
