-- Texts whose lines tell nothing: of each only the whole text counts.
use Rattle.std.proofs.Common.{◌≡◌, ℕ, zero, suc, ◌+◌, true, List, [], ◌∷◌, ◌++◌, ap, subst, ◌∙◌, arith}
use Rattle.std.specs.List.{flat_map, AllByRecursion}
use Rattle.report_reading.specs.LightLines.{has_head, is_light}
use Rattle.report_reading.specs.Readings.{LineValue, OfOther}
use Rattle.run_audit.proofs.LightTexts.{Ends, IsNoOther, headed, light_told}
use Rattle.run_audit.proofs.ToldTexts.{IsLine, TellsAs, tells_both, tells_line, tells_none}

-- so many lines that tell nothing
abbrev pub others : ℕ → List LineValue
others zero = []
others (suc n) = OfOther ∷ others n

-- the lines of a text tell nothing
pub record TellsNothing (text : List ℕ) : Type 0 where
  pub lines : ℕ
  pub tells : TellsAs text (others lines)

-- two lists of them are one
pub others-append : (m n : ℕ) → others m ++ others n ≡ others (m + n)
others-append zero n =
    let same : n ≡ 0 + n = omega arith in
    ap others same
others-append (suc m) n =
    let same : suc (m + n) ≡ suc m + n = omega arith in
    ap (λ (values : List LineValue). OfOther ∷ values) (others-append m n) ∙ ap others same

-- the same values, in other words
pub tells_same : (text : List ℕ) (values more : List LineValue) → values ≡ more → TellsAs text values → TellsAs text more
tells_same text values more same tells = subst (λ (vs : List LineValue). TellsAs text vs) same tells

-- no text tells nothing
pub nothing_of_none : TellsNothing []
nothing_of_none = record { lines = 0; tells = tells_none }

-- nor do two texts, one behind the other
pub nothing_of_both : (front back : List ℕ) → TellsNothing front → TellsNothing back → TellsNothing (front ++ back)
nothing_of_both front back one other = record {
  lines = one.lines + other.lines;
  tells = tells_same (front ++ back) (others one.lines ++ others other.lines) (others (one.lines + other.lines)) (others-append one.lines other.lines)
      (tells_both front back (others one.lines) (others other.lines) one.tells other.tells);
}

-- nor does a line of none of the kinds that tell something
pub nothing_of_line : (text : List ℕ) → IsLine text → is_light text ≡ true → IsNoOther text → TellsNothing text
nothing_of_line text line light none = record { lines = 1; tells = tells_line text OfOther line (light_told text light none) }

-- a line with a known word
pub nothing_of_head : (text : List ℕ) → IsLine text → Ends text → has_head text ≡ true → IsNoOther text → TellsNothing text
nothing_of_head text line ends head none = nothing_of_line text line (headed text ends head) none

-- nor do the texts of each of these
pub nothing_of_each : {X : Type 0} (text : X → List ℕ) (xs : List X) → AllByRecursion (λ x. TellsNothing (text x)) xs → TellsNothing (flat_map text xs)
nothing_of_each text [] all = nothing_of_none
nothing_of_each text (x ∷ xs) all = nothing_of_both (text x) (flat_map text xs) all.0 (nothing_of_each text xs all.1)
