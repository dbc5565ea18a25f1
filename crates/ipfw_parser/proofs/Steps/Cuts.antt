-- The first element of a list and the rest.
use Rattle.std.proofs.Common.{◌≡◌, ℕ, ◌+◌, ◌<◌, ◌≤◌, suc, Bool, true, false, not, ◌&&◌, ◌==◌, nat_lt, if◌then◌else◌, Option, Some, None, List, ◌∷◌, length, take, drop, get_or, refl, sym, ap, ◌∙◌, arith, add-one, inl, inr, drop-cons, position, []}
use Rattle.std.specs.List.{onto_first, position_or_len, slice_split}
use Rattle.std.proofs.lemmas.List.{drop_all}
use Rattle.std.proofs.lemmas.Bool.{cases_lt, lt-ltb, le-ltb}
use Rattle.std.proofs.Math.Numerals.{one-add}
use Rattle.ipfw_parser.specs.Addresses6.{colon_parts, colon_parts_left}
use Rattle.ipfw_parser.specs.Lists.{elements, elements_left, elements_outside, elements_outside_left, element_end, inside_after}

-- the list without its first element, which ends there
abbrev pub left_at : ℕ → List ℕ → Option (List ℕ)
left_at end text = if nat_lt end (length text) then Some (drop (end + 1) text) else None

some_same : (end byte : ℕ) (bytes : List ℕ) → Some (drop (suc end + 1) (byte ∷ bytes)) ≡ Some (drop (end + 1) bytes)
some_same end byte bytes = rw (add-one, add-one) refl

left_at-suc : (end byte : ℕ) (bytes : List ℕ) → left_at (suc end) (byte ∷ bytes) ≡ left_at end bytes
left_at-suc end byte bytes = elim (cases_lt end (length bytes)) [
  | inl h ↦ ap (λ b. if b then Some (drop (suc end + 1) (byte ∷ bytes)) else None) (lt-ltb (suc end) (length (byte ∷ bytes)) (omega arith)) ∙ some_same end byte bytes ∙ sym (ap (λ b. if b then Some (drop (end + 1) bytes) else None) (lt-ltb end (length bytes) h))
  | inr h ↦ ap (λ b. if b then Some (drop (suc end + 1) (byte ∷ bytes)) else None) (le-ltb (suc end) (length (byte ∷ bytes)) (omega arith)) ∙ sym (ap (λ b. if b then Some (drop (end + 1) bytes) else None) (le-ltb end (length bytes) h))
]

left_at-zero : (byte : ℕ) (bytes : List ℕ) → left_at 0 (byte ∷ bytes) ≡ Some bytes
left_at-zero byte bytes = rw (lt-ltb 0 (length (byte ∷ bytes)) (omega arith)) refl

outside_step : (b : Bool) (byte : ℕ) (bytes : List ℕ) (deeper : Bool)
    → elements_outside deeper bytes ≡ take (element_end deeper bytes) bytes ∷ elements_outside_left (left_at (element_end deeper bytes) bytes)
    → (if b then [] ∷ elements_outside false bytes else onto_first byte (elements_outside deeper bytes))
    ≡ take (if b then 0 else suc (element_end deeper bytes)) (byte ∷ bytes) ∷ elements_outside_left (left_at (if b then 0 else suc (element_end deeper bytes)) (byte ∷ bytes))
outside_step true byte bytes deeper rest = ap (λ left. [] ∷ elements_outside_left left) (sym (left_at-zero byte bytes))
outside_step false byte bytes deeper rest =
    ap (onto_first byte) rest ∙ ap (λ left. (byte ∷ take (element_end deeper bytes) bytes) ∷ elements_outside_left left) (sym (left_at-suc (element_end deeper bytes) byte bytes))

-- the text up to where its first element ends is that element, and what is left has the others
pub outside_first : (inside : Bool) (text : List ℕ) → elements_outside inside text ≡ take (element_end inside text) text ∷ elements_outside_left (left_at (element_end inside text) text)
unfolding elements_outside element_end
outside_first inside [] = refl
outside_first inside (byte ∷ bytes) = outside_step (byte == 44 && not inside) byte bytes (inside_after inside byte) (outside_first (inside_after inside byte) bytes)

-- the parts behind the first one
abbrev split_left : ℕ → Option (List ℕ) → List (List ℕ)
split_left at None = []
split_left at (Some text) = slice_split (λ b. b == at) text

split_step : (b : Bool) (at byte : ℕ) (bytes : List ℕ) (end : ℕ)
    → slice_split (λ x. x == at) bytes ≡ take end bytes ∷ split_left at (left_at end bytes)
    → (if b then [] ∷ slice_split (λ x. x == at) bytes else onto_first byte (slice_split (λ x. x == at) bytes)) ≡ take (if not b then 1 + end else 0) (byte ∷ bytes) ∷ split_left at (left_at (if not b then 1 + end else 0) (byte ∷ bytes))
split_step true at byte bytes end rest = ap (λ left. [] ∷ split_left at left) (sym (left_at-zero byte bytes))
split_step false at byte bytes end rest =
    rw (one-add end) (ap (onto_first byte) rest ∙ ap (λ left. (byte ∷ take end bytes) ∷ split_left at left) (sym (left_at-suc end byte bytes)))

split_first : (at : ℕ) (text : List ℕ) → slice_split (λ b. b == at) text ≡ take (position_or_len (λ b. b == at) text) text ∷ split_left at (left_at (position_or_len (λ b. b == at) text) text)
split_first at [] = refl
split_first at (byte ∷ bytes) = split_step (byte == at) at byte bytes (position_or_len (λ b. b == at) bytes) (split_first at bytes)

elements_left_are : (left : Option (List ℕ)) → split_left 44 left ≡ elements_left left
unfolding elements
elements_left_are None = refl
elements_left_are (Some text) = refl

-- the first element of a list, and the others
pub elements_first : (text : List ℕ) → elements text ≡ take (position_or_len (λ b. b == 44) text) text ∷ elements_left (left_at (position_or_len (λ b. b == 44) text) text)
unfolding elements
elements_first text =
    split_first 44 text ∙ ap (λ left. take (position_or_len (λ b. b == 44) text) text ∷ left) (elements_left_are (left_at (position_or_len (λ b. b == 44) text) text))

colon_parts_left_are : (left : Option (List ℕ)) → split_left 58 left ≡ colon_parts_left left
unfolding colon_parts
colon_parts_left_are None = refl
colon_parts_left_are (Some text) = refl

-- the first part of an IPv6 address, and those behind its colon
pub groups_first : (text : List ℕ) → colon_parts text ≡ take (position_or_len (λ b. b == 58) text) text ∷ colon_parts_left (left_at (position_or_len (λ b. b == 58) text) text)
unfolding colon_parts
groups_first text =
    split_first 58 text ∙ ap (λ left. take (position_or_len (λ b. b == 58) text) text ∷ left) (colon_parts_left_are (left_at (position_or_len (λ b. b == 58) text) text))

-- the first `at` bytes end no element, and leave it so
pub record IsSeeking (text : List ℕ) (at : ℕ) (inside : Bool) : Type 0 where
  pub same : at + element_end inside (drop at text) ≡ element_end false text

-- a byte that parts no elements is passed, and the search goes on behind it
pub seek_on : (text : List ℕ) (at : ℕ) (inside parted : Bool) → at < length text → parted ≡ (get_or text at 0 == 44 && not inside) → parted ≡ false → IsSeeking text at inside
    → IsSeeking text (at + 1) (inside_after inside (get_or text at 0))
unfolding element_end
seek_on text at inside parted within told more seeking =
    let split : drop at text ≡ get_or text at 0 ∷ drop (at + 1) text = rw add-one (drop-cons text at 0 within) in
    let step : element_end inside (drop at text) ≡ suc (element_end (inside_after inside (get_or text at 0)) (drop (at + 1) text)) =
    ap (element_end inside) split ∙ rw (← told, more) refl in
    record { same = omega (arith, step, seeking.same) }

-- the first byte that parts elements is where the first element ends
pub seek_found : (text : List ℕ) (at : ℕ) (inside parted : Bool) → at < length text → parted ≡ (get_or text at 0 == 44 && not inside) → parted ≡ true → IsSeeking text at inside → at ≡ element_end false text
unfolding element_end
seek_found text at inside parted within told here seeking =
    let split : drop at text ≡ get_or text at 0 ∷ drop (at + 1) text = rw add-one (drop-cons text at 0 within) in
    let step : element_end inside (drop at text) ≡ 0 = ap (element_end inside) split ∙ rw (← told, here) refl in
    omega (arith, step, seeking.same)

-- a text in which no byte parts elements is one element, which ends where the text does
pub seek_end : (text : List ℕ) (at : ℕ) (inside : Bool) → at ≡ length text → IsSeeking text at inside → length text ≡ element_end false text
unfolding element_end
seek_end text at inside done seeking =
    let step : element_end inside (drop at text) ≡ 0 = ap (element_end inside) (drop_all at text (omega arith)) in
    omega (arith, step, seeking.same)

position_or_len-le : (p : ℕ → Bool) (xs : List ℕ) → position_or_len p xs ≤ length xs
position_or_len-le p [] = omega arith
position_or_len-le p (x ∷ xs) = elim (p x) as (λ b. (if not b then 1 + position_or_len p xs else 0) ≤ length (x ∷ xs)) [ true ↦ omega arith | false ↦ omega (arith, position_or_len-le p xs) ]

some_none : {A : Type 0} {P : Type 0} (x : A) → Some x ≡ None → P
some_none x e = cc

-- where no byte passes the test, the place of the first that does is the text's end
pub none_len : (p : ℕ → Bool) (xs : List ℕ) → position p xs ≡ None → length xs ≡ position_or_len p xs
none_len p xs e = elim (cases_lt (position_or_len p xs) (length xs)) [
  | inl h ↦ some_none (position_or_len p xs) (rw (lt-ltb (position_or_len p xs) (length xs) h) at e)
  | inr h ↦ omega (arith, h, position_or_len-le p xs)
]
