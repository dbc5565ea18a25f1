-- Things that are found by the number of their record are those of that record.
use Rattle.std.proofs.Common.{◌≡◌, ℕ, ◌+◌, ◌==◌, Bool, List, [], ◌∷◌, ◌++◌, length, Option, Some, refl, sym, ap, ◌∙◌, inl, inr, arith}
use Rattle.std.specs.Prelude.{◌&&◌, slice_get}
use Rattle.std.specs.List.{filter, find, cons_option}
use Rattle.std.proofs.lemmas.Bool.{cases_Bool}
use Rattle.std.proofs.lemmas.List.{append_assoc, length-append}
use Rattle.run_audit.specs.Numbering.{is_numbered, numbered_from, picked}

-- what stands between two lists stands in the place of the first's length
pub slice_get-middle : {X : Type 0} (front : List X) (x : X) (xs : List X) → slice_get (front ++ x ∷ xs) (length front) ≡ Some x
slice_get-middle [] x xs = refl
slice_get-middle (y ∷ front) x xs = slice_get-middle front x xs

-- one more stands in front
pub front_more : {X : Type 0} (all front : List X) (x : X) (xs : List X) (place : ℕ) → all ≡ front ++ x ∷ xs → place ≡ length front
    → (all ≡ (front ++ x ∷ []) ++ xs) × (place + 1 ≡ length (front ++ x ∷ []))
front_more all front x xs place is at = (is ∙ sym (append_assoc front (x ∷ []) xs), omega (arith, length-append front (x ∷ []), at))

-- one that stands in a place is found there
pub found_there : {X : Type 0} (all front : List X) (x : X) (xs : List X) (place : ℕ) → all ≡ front ++ x ∷ xs → place ≡ length front → slice_get all place ≡ Some x
found_there all front x xs place is at = ap (λ (n : ℕ). slice_get all n) at ∙ ap (λ (ys : List _). slice_get ys (length front)) is ∙ slice_get-middle front x xs

-- those of a number, picked from all
pub picked_numbered : {X : Type 0} (key : X → ℕ) (at : ℕ) (all front xs : List X) (place : ℕ) → all ≡ front ++ xs → place ≡ length front
    → picked all (filter (is_numbered at) (numbered_from key place xs)) ≡ filter (λ x. key x == at) xs
picked_numbered key at all front [] place is there = refl
picked_numbered key at all front (x ∷ xs) place is there =
    let (more, next) = front_more all front x xs place is there in
    let rest = picked_numbered key at all (front ++ x ∷ []) xs (place + 1) more next in
    elim (cases_Bool (key x == at)) [
      | inl same ↦
          rw same (ap (λ (o : Option _). cons_option o (picked all (filter (is_numbered at) (numbered_from key (place + 1) xs)))) (found_there all front x xs place is there)
          ∙ ap (λ (ys : List _). x ∷ ys) rest)
      | inr other ↦ rw other rest
    ]

-- one test behind another is both
pub filter-both : {X : Type 0} (p q : X → Bool) (xs : List X) → filter q (filter p xs) ≡ filter (λ x. q x && p x) xs
filter-both p q [] = refl
filter-both p q (x ∷ xs) = elim (cases_Bool (p x)) [
  | inl passes ↦ elim (cases_Bool (q x)) [
    | inl both ↦ rw (passes, both) (ap (λ (ys : List _). x ∷ ys) (filter-both p q xs))
    | inr one ↦ rw (passes, one) (filter-both p q xs)
  ]
  | inr fails ↦ elim (cases_Bool (q x)) [
    | inl one ↦ rw (fails, one) (filter-both p q xs)
    | inr none ↦ rw (fails, none) (filter-both p q xs)
  ]
]

-- the first of those that pass one test which passes another
pub find-filter : {X : Type 0} (p q : X → Bool) (xs : List X) → find q (filter p xs) ≡ find (λ x. q x && p x) xs
find-filter p q [] = refl
find-filter p q (x ∷ xs) = elim (cases_Bool (p x)) [
  | inl passes ↦ elim (cases_Bool (q x)) [
    | inl both ↦ rw (passes, both) refl
    | inr one ↦ rw (passes, one) (find-filter p q xs)
  ]
  | inr fails ↦ elim (cases_Bool (q x)) [
    | inl one ↦ rw (fails, one) (find-filter p q xs)
    | inr none ↦ rw (fails, none) (find-filter p q xs)
  ]
]
