-- How far a text was met by what was written.
use Rattle.std.specs.Prelude.{◌≡◌, ℕ, ◌+◌, ◌≤◌, Bool, true, false, Option, Some, List, ◌++◌, length, take, drop}
use Rattle.run_audit.specs.Comparison.{line_of_first_other, line_ends}

-- the line of the first difference, where one was met in this line; else where one comes
abbrev pub difference_from : Bool → ℕ → List ℕ → List ℕ → Option ℕ
difference_from true line more rest = Some line
difference_from false line more rest = line_of_first_other line more rest

-- so many bytes of the text were written, and then others or none: whatever more is written
pub record IsMet (text written : List ℕ) (met : ℕ) (other : Bool) : Type 0 where
  pub within : met ≤ length text
  pub same : (more : List ℕ) → line_of_first_other 1 (written ++ more) text ≡ difference_from other (1 + line_ends (take met text)) more (drop met text)
