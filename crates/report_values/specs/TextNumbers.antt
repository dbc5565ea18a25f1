-- Texts that stand there once, and the map that tells their numbers.
use Rattle.std.specs.Prelude.{◌≡◌, ℕ, Option, None, Some, List, Vec, false, nat_eq}
use Rattle.std.specs.Cmp.Lexicographic.{pointwise}
use Rattle.std.specs.HashMap.{HashMap, get_by}
use Rattle.std.specs.List.{IsDistinct, list_any}
use Rattle.report_values.specs.Outcomes.{IsNumbered}

-- the number that a map tells of a text
abbrev pub number_in : {A S : Type 0} → HashMap (Vec ℕ A) ℕ S → List ℕ → Option ℕ
number_in numbers text = get_by (λ key. pointwise nat_eq text key.items) numbers

-- what a map tells of a text: its number among these, or that it isn't among them
abbrev pub IsNumberOf : List (List ℕ) → List ℕ → Option ℕ → Type 0
IsNumberOf texts text None = list_any (pointwise nat_eq text) texts ≡ false
IsNumberOf texts text (Some number) = IsNumbered texts number text

-- each text stands there once, and the map tells its number
pub record AreNumbered {A S : Type 0} (texts : List (List ℕ)) (numbers : HashMap (Vec ℕ A) ℕ S) : Type 0 where
  pub distinct : IsDistinct (pointwise nat_eq) texts
  pub found : (text : List ℕ) → IsNumberOf texts text (number_in numbers text)
