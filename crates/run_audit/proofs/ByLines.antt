-- The first byte that two texts don't share stands in the first line that they don't share.
use Rattle.std.proofs.Common.{◌≡◌, ℕ, ◌+◌, ◌==◌, false, Some, None, List, [], ◌∷◌, refl, sym, ◌∙◌, inl, inr, if◌then◌else◌}
use Rattle.std.specs.List.{onto_first}
use Rattle.std.proofs.lemmas.Bool.{cases_Bool, eqb-true}
use Rattle.report_reading.specs.Lines.{lines_with_ends}
use Rattle.run_audit.specs.Comparison.{line_of_first_other, first_other_line}
use Rattle.report_reading.proofs.Words.{same_number}

-- the first line of a list has a byte
abbrev HasFirst : List (List ℕ) → Type 0
HasFirst [] = Unit {0}
HasFirst ([] ∷ lines) = ⊥
HasFirst ((byte ∷ line) ∷ lines) = Unit {0}

onto_has_first : (byte : ℕ) (lines : List (List ℕ)) → HasFirst (onto_first byte lines)
onto_has_first byte [] = tt
onto_has_first byte (line ∷ lines) = tt

lines_have_first : (bytes : List ℕ) → HasFirst (lines_with_ends bytes)
unfolding lines_with_ends
lines_have_first [] = tt
lines_have_first (byte ∷ bytes) = elim (cases_Bool (byte == 10)) [
  | inl is ↦ rw is tt
  | inr other ↦ rw other (onto_has_first byte (lines_with_ends bytes))
]

-- a byte more in front of both first lines changes nothing
same_onto : (number byte : ℕ) (lines others : List (List ℕ)) → HasFirst lines → HasFirst others
    → first_other_line number (onto_first byte lines) (onto_first byte others) ≡ first_other_line number lines others
unfolding first_other_line
same_onto number byte [] [] some more = rw (same_number byte) refl
same_onto number byte [] ([] ∷ others) some more = absurd more
same_onto number byte [] ((other ∷ others) ∷ rest) some more = rw (same_number byte) refl
same_onto number byte ([] ∷ lines) others some more = absurd some
same_onto number byte ((first ∷ line) ∷ lines) [] some more = rw (same_number byte) refl
same_onto number byte ((first ∷ line) ∷ lines) ([] ∷ others) some more = absurd more
same_onto number byte ((first ∷ line) ∷ lines) ((other ∷ others) ∷ rest) some more = rw (same_number byte) refl

-- the first lines begin with these bytes
abbrev BeginsWith : ℕ → List (List ℕ) → Type 0
BeginsWith byte [] = ⊥
BeginsWith byte ([] ∷ lines) = ⊥
BeginsWith byte ((first ∷ line) ∷ lines) = first ≡ byte

onto_begins : (byte : ℕ) (lines : List (List ℕ)) → BeginsWith byte (onto_first byte lines)
onto_begins byte [] = refl
onto_begins byte (line ∷ lines) = refl

lines_begin : (byte : ℕ) (bytes : List ℕ) → BeginsWith byte (lines_with_ends (byte ∷ bytes))
unfolding lines_with_ends
lines_begin byte bytes = elim (cases_Bool (byte == 10)) [
  | inl is ↦ rw is refl
  | inr other ↦ rw other (onto_begins byte (lines_with_ends bytes))
]

other_first : (number byte other : ℕ) (lines others : List (List ℕ)) → BeginsWith byte lines → BeginsWith other others → (byte == other) ≡ false
    → first_other_line number lines others ≡ Some number
unfolding first_other_line
other_first number byte other [] others begins ends differ = absurd begins
other_first number byte other ([] ∷ lines) others begins ends differ = absurd begins
other_first number byte other ((first ∷ line) ∷ lines) [] begins ends differ = absurd ends
other_first number byte other ((first ∷ line) ∷ lines) ([] ∷ others) begins ends differ = absurd ends
other_first number byte other ((first ∷ line) ∷ lines) ((second ∷ more) ∷ others) begins ends differ = rw (begins, ends, differ) refl

some_lines : (number byte : ℕ) (lines : List (List ℕ)) → BeginsWith byte lines → first_other_line number [] lines ≡ Some number
unfolding first_other_line
some_lines number byte [] begins = absurd begins
some_lines number byte (line ∷ lines) begins = refl

lines_some : (number byte : ℕ) (lines : List (List ℕ)) → BeginsWith byte lines → first_other_line number lines [] ≡ Some number
unfolding first_other_line
lines_some number byte [] begins = absurd begins
lines_some number byte (line ∷ lines) begins = refl

same_start : (number byte : ℕ) (bytes others : List ℕ)
    → ((next : ℕ) → line_of_first_other next bytes others ≡ first_other_line next (lines_with_ends bytes) (lines_with_ends others))
    → line_of_first_other (if byte == 10 then number + 1 else number) bytes others
    ≡ first_other_line number (lines_with_ends (byte ∷ bytes)) (lines_with_ends (byte ∷ others))
unfolding lines_with_ends first_other_line
same_start number byte bytes others law = elim (cases_Bool (byte == 10)) [
  | inl is ↦ rw (is, same_number byte) (law (number + 1))
  | inr other ↦
      rw other (law number ∙ sym (same_onto number byte (lines_with_ends bytes) (lines_with_ends others) (lines_have_first bytes) (lines_have_first others)))
]

none_other : (number : ℕ) → None ≡ first_other_line number (lines_with_ends []) (lines_with_ends [])
unfolding first_other_line lines_with_ends
none_other number = refl

-- the first other byte's line is the first other line
pub by_lines : (number : ℕ) (written text : List ℕ) → line_of_first_other number written text
    ≡ first_other_line number (lines_with_ends written) (lines_with_ends text)
unfolding line_of_first_other lines_with_ends
by_lines number [] [] = none_other number
by_lines number [] (byte ∷ text) = sym (some_lines number byte (lines_with_ends (byte ∷ text)) (lines_begin byte text))
by_lines number (byte ∷ written) [] = sym (lines_some number byte (lines_with_ends (byte ∷ written)) (lines_begin byte written))
by_lines number (byte ∷ written) (other ∷ text) = elim (cases_Bool (byte == other)) [
  | inl same ↦
      let is : other ≡ byte = sym (eqb-true byte other same) in
      rw (same, is) (same_start number byte written text (λ next. by_lines next written text))
  | inr differ ↦
      rw differ (sym (other_first number byte other (lines_with_ends (byte ∷ written)) (lines_with_ends (other ∷ text)) (lines_begin byte written) (lines_begin other text) differ))
]
