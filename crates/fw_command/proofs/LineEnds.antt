-- The first line and those behind it.
use Rattle.std.proofs.Common.{◌≡◌, ◌∙◌, ℕ, suc, ◌+◌, ◌<◌, ◌≤◌, Bool, true, false, cond, List, [], ◌∷◌, None, Some, length, take, drop, refl, sym, ap, arith, nat_lt, ◌==◌, inl, inr}
use Rattle.std.specs.Prelude.{position}
use Rattle.std.specs.List.{position_or_len, onto_first}
use Rattle.std.proofs.lemmas.Bool.{cases_Bool, ltb-true, ltb-false}
use Rattle.std.proofs.lemmas.Option.{cond_some, none-some}
use Rattle.fw_command.specs.Lines.{lines_of}
use Rattle.fw_command.proofs.Pieces.{lines_of-nil, lines_of-cons}

-- where the first byte 10 stands, or the length
abbrev pub first_end : List ℕ → ℕ
first_end bytes = position_or_len (λ b. b == 10) bytes

-- the first line ends before the first byte 10
line_ends : (bytes : List ℕ) → first_end bytes < length bytes
    → lines_of bytes ≡ take (first_end bytes) bytes ∷ lines_of (drop (suc (first_end bytes)) bytes)
line_ends [] within = absurd (omega arith)
line_ends (b ∷ bytes) within = elim (cases_Bool (b == 10)) [
  | inl is ↦ rw (lines_of-cons b bytes, is) refl
  | inr isn't ↦
      let shifted : 1 + first_end bytes ≡ suc (first_end bytes) = omega arith in
      let inside = rw isn't at within in
      let inner : first_end bytes < length bytes = omega arith in
      rw (lines_of-cons b bytes, isn't, shifted, line_ends bytes inner) refl
]

-- a string without a byte 10 is one line
one_line : (bytes : List ℕ) → 0 < length bytes → length bytes ≤ first_end bytes → lines_of bytes ≡ bytes ∷ []
one_line [] some none = absurd (omega arith)
one_line (b ∷ []) some none = elim (cases_Bool (b == 10)) [
  | inl is ↦ let no = rw is at none in absurd (omega arith)
  | inr isn't ↦ rw (lines_of-cons b [], isn't, lines_of-nil) refl
]
one_line (b ∷ c ∷ bytes) some none = elim (cases_Bool (b == 10)) [
  | inl is ↦ let no = rw is at none in absurd (omega arith)
  | inr isn't ↦
      let rest = rw isn't at none in
      let here : 0 < length (c ∷ bytes) = omega arith in
      let still : length (c ∷ bytes) ≤ first_end (c ∷ bytes) = omega arith in
      let rec = one_line (c ∷ bytes) here still in
      rw (lines_of-cons b (c ∷ bytes), isn't) (ap (onto_first b) rec)
]

found_within : (bytes : List ℕ) (at : ℕ) → Some at ≡ position (λ b. b == 10) bytes → (first_end bytes < length bytes) × (first_end bytes ≡ at)
found_within bytes at found =
    let (within, is) = cond_some (nat_lt (first_end bytes) (length bytes)) (first_end bytes) at (sym found) in
    (ltb-true _ _ within, is)

-- the bytes before the first byte 10 are the first line, and those behind it give the other lines
pub lines_of_at : (bytes : List ℕ) (at : ℕ) → Some at ≡ position (λ b. b == 10) bytes
    → lines_of bytes ≡ take at bytes ∷ lines_of (drop (at + 1) bytes)
lines_of_at bytes at found =
    let (within, is) = found_within bytes at found in
    let next : suc at ≡ at + 1 = omega arith in
    let ends = line_ends bytes within in
    let here = rw is at ends in
    rw next at here

none_within : (b : Bool) (n : ℕ) → None ≡ cond b (Some n) None → b ≡ false
none_within true n none = absurd (none-some n none)
none_within false n none = refl

-- bytes without a byte 10 are one line, where there are any
pub lines_of_one : (bytes : List ℕ) → 0 < length bytes → None ≡ position (λ b. b == 10) bytes
    → lines_of bytes ≡ bytes ∷ lines_of []
lines_of_one bytes some none =
    let past = ltb-false _ _ (none_within (nat_lt (first_end bytes) (length bytes)) (first_end bytes) none) in
    one_line bytes some past ∙ ap (λ lines. bytes ∷ lines) (sym lines_of-nil)
