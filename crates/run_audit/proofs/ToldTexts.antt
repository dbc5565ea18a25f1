-- Texts of whole lines, and what their lines tell.
use Rattle.std.proofs.Common.{◌≡◌, ℕ, ◌+◌, ◌==◌, false, Option, Some, List, [], ◌∷◌, ◌++◌, map, codes, refl, sym, ap, ◌∙◌, inl, inr, arith, append_assoc}
use Rattle.std.specs.List.{flat_map, onto_first, AllByRecursion}
use Rattle.std.proofs.lemmas.Bool.{cases_Bool}
use Rattle.std.proofs.lemmas.List.{map-append}
use Rattle.report_texts.proofs.SilentWords.{lines-append}
use Rattle.report_texts.specs.Lines.{lines_in}
use Rattle.report_reading.specs.Lines.{lines_with_ends}
use Rattle.report_reading.specs.Readings.{LineValue, reading_of}

-- ---- one line

-- whatever stands behind it, this text is the first line
abbrev pub IsLine : List ℕ → Type 0
IsLine text = (more : List ℕ) → lines_with_ends (text ++ more) ≡ text ∷ lines_with_ends more

-- the end of a line is one
pub newline : IsLine (codes "\n")
unfolding lines_with_ends
newline = λ more. refl

no_end : (byte : ℕ) (bytes : List ℕ) → lines_in (byte ∷ bytes) ≡ 0 → ((byte == 10) ≡ false) × (lines_in bytes ≡ 0)
unfolding lines_in
no_end byte bytes none = elim (cases_Bool (byte == 10)) [
  | inl is ↦ let some : 1 + lines_in bytes ≡ 0 = rw is at none in absurd (omega (arith, some))
  | inr other ↦ let rest : lines_in bytes ≡ 0 = rw other at none in (other, rest)
]

-- so is one with more in front that ends none
pub silent_before : (front back : List ℕ) → lines_in front ≡ 0 → IsLine back → IsLine (front ++ back)
unfolding lines_with_ends
silent_before [] back none line = line
silent_before (byte ∷ front) back none line = λ more.
    let (other, rest) = no_end byte front none in
    rw other (ap (onto_first byte) (silent_before front back rest line more))

-- two texts that end no line
pub silent_both : (first second : List ℕ) → lines_in first ≡ 0 → lines_in second ≡ 0 → lines_in (first ++ second) ≡ 0
silent_both first second one other =
    let both : lines_in (first ++ second) ≡ lines_in first + lines_in second = lines-append first second in
    omega (arith, both, one, other)

-- ---- several lines

-- what is read of the lines of a text
abbrev pub readings : List ℕ → List (Option LineValue)
readings text = map reading_of (lines_with_ends text)

-- values as readings
abbrev pub read_values : List LineValue → List (Option LineValue)
read_values values = map (λ value. Some value) values

-- the lines of a text tell these, whatever stands behind
abbrev pub TellsAs : List ℕ → List LineValue → Type 0
TellsAs text values = (more : List ℕ) → readings (text ++ more) ≡ read_values values ++ readings more

-- no text tells nothing
pub tells_none : TellsAs [] []
tells_none = λ more. refl

-- a line tells what is read of it
pub tells_line : (text : List ℕ) (value : LineValue) → IsLine text → reading_of text ≡ Some value → TellsAs text (value ∷ [])
tells_line text value line is = λ more.
    ap (map reading_of) (line more) ∙ ap (λ (found : Option LineValue). found ∷ readings more) is

-- two texts, one behind the other
pub tells_both : (first second : List ℕ) (values others : List LineValue) → TellsAs first values → TellsAs second others → TellsAs (first ++ second) (values ++ others)
tells_both first second values others one other = λ more.
    ap (λ (text : List ℕ). readings text) (append_assoc first second more) ∙ one (second ++ more)
    ∙ ap (λ (rest : List (Option LineValue)). read_values values ++ rest) (other more)
    ∙ sym (append_assoc (read_values values) (read_values others) (readings more))
    ∙ ap (λ (all : List (Option LineValue)). all ++ readings more) (sym (map-append (λ (value : LineValue). Some value) values others))

-- a text for each of these
pub tells_each : {X : Type 0} (text : X → List ℕ) (value : X → LineValue) (xs : List X) → AllByRecursion (λ x. TellsAs (text x) (value x ∷ [])) xs → TellsAs (flat_map text xs) (map value xs)
tells_each text value [] all = tells_none
tells_each text value (x ∷ xs) all = tells_both (text x) (flat_map text xs) (value x ∷ []) (map value xs) all.0 (tells_each text value xs all.1)
