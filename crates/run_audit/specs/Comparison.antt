-- Two texts beside one another: the first line in which they differ.
use Rattle.std.specs.Prelude.{ℕ, suc, ◌+◌, ◌==◌, nat_eq, if◌then◌else◌, Option, Some, None, List, [], ◌∷◌}
use Rattle.std.specs.Cmp.Lexicographic.{pointwise}

-- the line behind a byte of this line
abbrev pub line_behind : ℕ → ℕ → ℕ
line_behind byte line = if byte == 10 then line + 1 else line

-- The line of the first byte that two texts don't share; the first byte of both stands in this line. Where one is the
-- other's front, it is the line that the longer one goes on with.
unfoldable pub line_of_first_other : ℕ → List ℕ → List ℕ → Option ℕ
line_of_first_other line [] [] = None
line_of_first_other line [] (byte ∷ bytes) = Some line
line_of_first_other line (byte ∷ bytes) [] = Some line
line_of_first_other line (byte ∷ bytes) (other ∷ others) =
    if byte == other then line_of_first_other (line_behind byte line) bytes others else Some line

-- the number of the first line that two lists of lines don't share; the first of both has this number
unfoldable pub first_other_line : ℕ → List (List ℕ) → List (List ℕ) → Option ℕ
first_other_line number [] [] = None
first_other_line number [] (line ∷ lines) = Some number
first_other_line number (line ∷ lines) [] = Some number
first_other_line number (line ∷ lines) (other ∷ others) =
    if pointwise nat_eq line other then first_other_line (number + 1) lines others else Some number

-- how many bytes 10 a text has
unfoldable pub line_ends : List ℕ → ℕ
line_ends [] = 0
line_ends (byte ∷ bytes) = if byte == 10 then suc (line_ends bytes) else line_ends bytes

-- what a comparer compares, and what was written
pub record Compared : Type 0 where
  pub text : List ℕ
  pub written : List ℕ
