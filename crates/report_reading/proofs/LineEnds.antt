-- The first line and those behind it.
use Rattle.std.proofs.Common.{◌≡◌, ℕ, suc, ◌+◌, ◌<◌, ◌≤◌, Bool, true, false, cond, List, [], ◌∷◌, None, Some, length, take, drop, refl, sym, ap, arith, nat_lt, ◌==◌, inl, inr}
use Rattle.std.specs.Prelude.{position}
use Rattle.std.specs.List.{position_or_len, onto_first}
use Rattle.std.proofs.lemmas.Bool.{cases_Bool, ltb-true, ltb-false}
use Rattle.std.proofs.lemmas.Option.{cond_some, none-some}
use Rattle.report_reading.specs.Lines.{lines_with_ends}

-- where the first byte 10 stands, or the length
abbrev first_end : List ℕ → ℕ
first_end bytes = position_or_len (λ b. b == 10) bytes

line_ends : (bytes : List ℕ) → first_end bytes < length bytes
    → lines_with_ends bytes ≡ take (suc (first_end bytes)) bytes ∷ lines_with_ends (drop (suc (first_end bytes)) bytes)
unfolding lines_with_ends
line_ends [] within = absurd (omega arith)
line_ends (b ∷ bytes) within = elim (cases_Bool (b == 10)) [
  | inl is ↦ rw is refl
  | inr isn't ↦
      let shifted : 1 + first_end bytes ≡ suc (first_end bytes) = omega arith in
      let inside = rw isn't at within in
      let inner : first_end bytes < length bytes = omega arith in
      rw (isn't, shifted, line_ends bytes inner) refl
]

one_line : (bytes : List ℕ) → 0 < length bytes → length bytes ≤ first_end bytes → lines_with_ends bytes ≡ bytes ∷ []
unfolding lines_with_ends
one_line [] some none = absurd (omega arith)
one_line (b ∷ []) some none = elim (cases_Bool (b == 10)) [
  | inl is ↦ let no = rw is at none in absurd (omega arith)
  | inr isn't ↦ rw isn't refl
]
one_line (b ∷ c ∷ bytes) some none = elim (cases_Bool (b == 10)) [
  | inl is ↦ let no = rw is at none in absurd (omega arith)
  | inr isn't ↦
      let rest = rw isn't at none in
      let here : 0 < length (c ∷ bytes) = omega arith in
      let still : length (c ∷ bytes) ≤ first_end (c ∷ bytes) = omega arith in
      let rec = one_line (c ∷ bytes) here still in
      rw isn't (ap (onto_first b) rec)
]

-- the bytes to the first byte 10 are the first line, and those behind it give the other lines
pub lines_at : (bytes : List ℕ) (at : ℕ) → Some at ≡ position (λ b. b == 10) bytes
    → lines_with_ends bytes ≡ take (at + 1) bytes ∷ lines_with_ends (drop (at + 1) bytes)
lines_at bytes at found =
    let (within, is) = cond_some (nat_lt (first_end bytes) (length bytes)) (first_end bytes) at (sym found) in
    let ends = line_ends bytes (ltb-true _ _ within) in
    let here = rw is at ends in
    let next : suc at ≡ at + 1 = omega arith in
    rw next at here

-- where nothing is found, nothing stands there
pub none_within : (b : Bool) (n : ℕ) → None ≡ cond b (Some n) None → b ≡ false
none_within true n none = absurd (none-some n none)
none_within false n none = refl

-- bytes without a byte 10 are one line, where there are any
pub lines_of_one : (bytes : List ℕ) → 0 < length bytes → None ≡ position (λ b. b == 10) bytes
    → lines_with_ends bytes ≡ bytes ∷ lines_with_ends []
unfolding lines_with_ends
lines_of_one bytes some none =
    let past = ltb-false _ _ (none_within (nat_lt (first_end bytes) (length bytes)) (first_end bytes) none) in
    one_line bytes some past
