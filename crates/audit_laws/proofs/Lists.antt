-- Facts of all elements of a list, and of numbers.
use Rattle.std.proofs.Common.{◌≡◌, ◌≢◌, ℕ, zero, suc, ◌==◌, false, Some, List, [], ◌∷◌, ◌++◌, drop, subst, inl, inr}
use Rattle.std.specs.List.{AllByRecursion}
use Rattle.std.specs.Prelude.{slice_get}
use Rattle.std.proofs.lemmas.Bool.{cases_Bool, eqb-true}

-- what holds of all holds in each place
pub in_place : {X : Type 0} (P : X → Type 0) (xs : List X) (k : ℕ) (x : X) → AllByRecursion P xs → slice_get xs k ≡ Some x → P x
in_place P [] k x all is = absurd (cc)
in_place P (y ∷ xs) zero x all is = let same : y ≡ x = cc in subst P same all.0
in_place P (y ∷ xs) (suc k) x all is = in_place P xs k x all.1 is

-- of two lists, one behind the other
pub both : {X : Type 0} (P : X → Type 0) (xs ys : List X) → AllByRecursion P xs → AllByRecursion P ys → AllByRecursion P (xs ++ ys)
both P [] ys one other = other
both P (x ∷ xs) ys one other = (one.0, both P xs ys one.1 other)

-- and of what is behind a place
pub all_behind : {X : Type 0} (P : X → Type 0) (place : ℕ) (xs : List X) → AllByRecursion P xs → AllByRecursion P (drop place xs)
all_behind P zero xs all = all
all_behind P (suc place) [] all = tt
all_behind P (suc place) (x ∷ xs) all = all_behind P place xs all.1

-- and no other
pub other_number : (m n : ℕ) → m ≢ n → (m == n) ≡ false
other_number m n other = elim (cases_Bool (m == n)) [
  | inl same ↦ absurd (other (eqb-true m n same))
  | inr is ↦ is
]
