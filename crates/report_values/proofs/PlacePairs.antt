-- Elements of two lists by their places.
use Rattle.std.proofs.Common.{◌≡◌, ℕ, zero, suc, ◌+◌, ◌<◌, min, Bool, cond, List, [], ◌∷◌, length, get_or, take, ap, refl, ◌∙◌, arith}
use Rattle.std.specs.Prelude.{count_by, sum_by, zip}
use Rattle.std.proofs.lemmas.List.Sums.{sum_by_more}

module _ {X Y : Type 0} where
  -- the pair at a place
  pub pair_at : (xs : List X) (ys : List Y) (i : ℕ) (d : X) (e : Y) → i < length xs → i < length ys → get_or (zip xs ys) i (d, e) ≡ (get_or xs i d, get_or ys i e)
  pair_at [] ys i d e within under = absurd (omega (arith, within))
  pair_at (x ∷ xs) [] i d e within under = absurd (omega (arith, under))
  pair_at (x ∷ xs) (y ∷ ys) zero d e within under = refl
  pair_at (x ∷ xs) (y ∷ ys) (suc i) d e within under = pair_at xs ys i d e (omega (arith, within)) (omega (arith, under))

  -- as many pairs as the shorter list has elements
  pub pair_count : (xs : List X) (ys : List Y) → length (zip xs ys) ≡ min (length xs) (length ys)
  pair_count [] ys = omega arith
  pair_count (x ∷ xs) [] = omega arith
  pair_count (x ∷ xs) (y ∷ ys) = omega (arith, pair_count xs ys)

  -- a sum over the pairs, with the pair at the next place
  pub pairs_more : (f : X × Y → ℕ) (xs : List X) (ys : List Y) (i : ℕ) (d : X) (e : Y) → i < length xs → i < length ys
      → sum_by f (take (i + 1) (zip xs ys)) ≡ sum_by f (take i (zip xs ys)) + f (get_or xs i d, get_or ys i e)
  pairs_more f xs ys i d e within under =
      sum_by_more f (zip xs ys) i (d, e) (omega (arith, within, under, pair_count xs ys))
      ∙ ap (λ p. sum_by f (take i (zip xs ys)) + f p) (pair_at xs ys i d e within under)

  -- a count of the pairs, with the pair at the next place
  pub counted_more : (p : X × Y → Bool) (xs : List X) (ys : List Y) (i : ℕ) (d : X) (e : Y) (b : Bool) → i < length xs → i < length ys
      → p (get_or xs i d, get_or ys i e) ≡ b → count_by p (take (i + 1) (zip xs ys)) ≡ count_by p (take i (zip xs ys)) + cond b 1 0
  counted_more p xs ys i d e b within under is =
      pairs_more (λ pair. cond (p pair) 1 0) xs ys i d e within under
      ∙ ap (λ b. count_by p (take i (zip xs ys)) + cond b 1 0) is
