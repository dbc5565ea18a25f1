-- A list whose front is mapped already.
use Rattle.std.proofs.Common.{◌≡◌, ℕ, ◌<◌, List, [], ◌∷◌, ◌++◌, length, map, take, drop, zero, suc, refl, ap, arith, get_or}
use Rattle.std.proofs.Math.ListN.{set}

-- the next element is mapped
pub mapped_more : {X : Type 0} (f : X → X) (xs : List X) (i : ℕ) (d : X) → i < length xs → set (map f (take i xs) ++ drop i xs) i (f (get_or (map f (take i xs) ++ drop i xs) i d)) ≡ map f (take (suc i) xs) ++ drop (suc i) xs
mapped_more f [] i d inside = absurd (omega arith)
mapped_more f (x ∷ xs) zero d inside = refl
mapped_more f (x ∷ xs) (suc i) d inside = ap (λ (rest : List _). f x ∷ rest) (mapped_more f xs i d (omega arith))
