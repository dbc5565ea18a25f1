-- The form of a report, line by line.
use Rattle.std.specs.Prelude.{ℕ, ◌+◌, is_some, if◌then◌else◌, Option, Some, None, List, [], ◌∷◌}
use Rattle.report_reading.specs.Readings.{reading_of}

-- the first line that has the form of none; the first of these lines has this number
unfoldable pub first_unformed : ℕ → List (List ℕ) → Option ℕ
first_unformed number [] = None
first_unformed number (line ∷ lines) = if is_some (reading_of line) then first_unformed (number + 1) lines else Some number
