-- The place of the first element that passes a test, and whether there is one.
use Rattle.std.proofs.Common.{◌≡◌, ℕ, suc, ◌+◌, Bool, true, false, nat_lt, List, [], ◌∷◌, length, refl, ◌∙◌, arith}
use Rattle.std.specs.List.{position_or_len, list_any}

one_more : (a b : ℕ) → nat_lt (1 + a) (suc b) ≡ nat_lt a b
one_more a b = grind arith

-- a place is found exactly where an element passes
pub some_place : {X : Type 0} (p : X → Bool) (xs : List X) → nat_lt (position_or_len p xs) (length xs) ≡ list_any p xs
some_place p [] = refl
some_place p (x ∷ xs) = go (p x) refl (some_place p xs)
  where
    go : (b : Bool) → p x ≡ b → nat_lt (position_or_len p xs) (length xs) ≡ list_any p xs → nat_lt (position_or_len p (x ∷ xs)) (suc (length xs)) ≡ list_any p (x ∷ xs)
    go true is rest = rw is (grind arith)
    go false is rest = rw is (one_more (position_or_len p xs) (length xs) ∙ rest)
