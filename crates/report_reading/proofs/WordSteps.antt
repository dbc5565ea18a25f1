-- A word at the front of a text, letter by letter.
use Rattle.std.proofs.Common.{◌≡◌, ℕ, ◌+◌, ◌<◌, ◌≤◌, ◌==◌, Bool, true, false, Option, Some, None, List, [], ◌∷◌, length, drop, get_or, refl, sym, ap, ◌∙◌, inl, inr, arith}
use Rattle.std.specs.Prelude.{nat_eq}
use Rattle.std.specs.Cmp.Lexicographic.{pointwise}
use Rattle.std.proofs.lemmas.Bool.{cases_Bool, eqb-true}
use Rattle.std.proofs.lemmas.List.{drop_all}
use Rattle.report_reading.specs.Parts.{behind}
use Rattle.report_reading.proofs.DigitSteps.{here}

-- a text that is shorter than a word doesn't begin with it
pub too_short : (word text : List ℕ) → length text < length word → behind word text ≡ None
unfolding behind
too_short [] text less = absurd (omega (arith, less))
too_short (letter ∷ word) [] less = refl
too_short (letter ∷ word) (byte ∷ text) less = elim (cases_Bool (letter == byte)) [
  | inl same ↦ rw same (too_short word text (omega (arith, less)))
  | inr other ↦ rw other refl
]

-- a letter that stands is passed
pub stands : (word text : List ℕ) (i letter byte : ℕ) → i < length word → letter ≡ get_or word i 0 → i < length text → byte ≡ get_or text i 0 → byte ≡ letter
    → behind (drop (i + 1) word) (drop (i + 1) text) ≡ behind (drop i word) (drop i text)
unfolding behind
stands word text i letter byte in_word is_letter in_text is_byte same =
    let equal : (letter == byte) ≡ true = grind (arith, same) in
    sym (ap (λ w. behind w (drop i text)) (here word i letter in_word is_letter) ∙ ap (behind (letter ∷ drop (i + 1) word)) (here text i byte in_text is_byte) ∙ rw equal refl)

-- another letter ends it
pub fails : (word text : List ℕ) (i letter byte : ℕ) → i < length word → letter ≡ get_or word i 0 → i < length text → byte ≡ get_or text i 0 → (byte ≡ letter → ⊥)
    → behind (drop i word) (drop i text) ≡ None
unfolding behind
fails word text i letter byte in_word is_letter in_text is_byte other =
    let unequal : (letter == byte) ≡ false = differ (letter == byte) refl in
    ap (λ w. behind w (drop i text)) (here word i letter in_word is_letter) ∙ ap (behind (letter ∷ drop (i + 1) word)) (here text i byte in_text is_byte) ∙ rw unequal refl
  where
    differ : (b : Bool) → (letter == byte) ≡ b → (letter == byte) ≡ false
    differ true is = absurd (other (sym (eqb-true letter byte is)))
    differ false is = is

-- behind the last letter stands the rest
pub at_end : (word text : List ℕ) (i : ℕ) → length word ≤ i → behind (drop i word) (drop i text) ≡ Some (drop i text)
unfolding behind
at_end word text i done = ap (λ w. behind w (drop i text)) (drop_all i word done)

-- nothing stands behind a word
abbrev pub is_spent : Option (List ℕ) → Bool
is_spent None = false
is_spent (Some []) = true
is_spent (Some (byte ∷ rest)) = false

-- what stands behind a word is nothing where it has no byte
pub spent_rest : (rest : List ℕ) → (length rest == 0) ≡ is_spent (Some rest)
spent_rest [] = refl
spent_rest (byte ∷ rest) = grind (arith)

-- a text is a word where nothing stands behind it
pub whole_word : (word text : List ℕ) → is_spent (behind word text) ≡ pointwise nat_eq text word
unfolding behind
whole_word [] [] = refl
whole_word [] (byte ∷ text) = refl
whole_word (letter ∷ word) [] = refl
whole_word (letter ∷ word) (byte ∷ text) = elim (cases_Bool (letter == byte)) [
  | inl same ↦
      let equal : nat_eq byte letter ≡ true = grind (arith, eqb-true letter byte same) in
      rw (same, equal) (whole_word word text)
  | inr other ↦
      let unequal : nat_eq byte letter ≡ false = flipped letter byte other in
      rw (other, unequal) refl
]
  where
    flipped : (letter byte : ℕ) → (letter == byte) ≡ false → nat_eq byte letter ≡ false
    flipped letter byte other = grind (arith, other)
