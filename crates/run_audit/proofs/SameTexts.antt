-- Two texts that differ in no line are one.
use Rattle.std.proofs.Common.{◌≡◌, ℕ, ◌==◌, Some, None, List, [], ◌∷◌, refl, ap, ◌∙◌, inl, inr}
use Rattle.std.proofs.lemmas.Bool.{cases_Bool, eqb-true}
use Rattle.run_audit.specs.Comparison.{line_behind, line_of_first_other}
use Rattle.report_reading.proofs.Words.{same_number}

-- where none is the first line that two texts don't share, they are the same
pub same_text : (line : ℕ) (written text : List ℕ) → line_of_first_other line written text ≡ None → written ≡ text
unfolding line_of_first_other
same_text line [] [] is = refl
same_text line [] (byte ∷ text) is = absurd (cc)
same_text line (byte ∷ written) [] is = absurd (cc)
same_text line (byte ∷ written) (other ∷ text) is = elim (cases_Bool (byte == other)) [
  | inl same ↦
      let more : line_of_first_other (line_behind byte line) written text ≡ None = rw same at is in
      ap (λ b. b ∷ written) (eqb-true byte other same) ∙ ap (λ (bytes : List ℕ). other ∷ bytes) (same_text (line_behind byte line) written text more)
  | inr differs ↦
      let differ : Some line ≡ None = rw differs at is in
      absurd (cc)
]

-- a text differs in no line from itself
pub no_other : (line : ℕ) (text : List ℕ) → line_of_first_other line text text ≡ None
unfolding line_of_first_other
no_other line [] = refl
no_other line (byte ∷ text) = rw (same_number byte) (no_other (line_behind byte line) text)
