-- What the definitions of reading come to.
use Rattle.std.specs.Prelude.{◌≡◌, ◌≤◌, ℕ, List, length}
use Rattle.report_values.specs.Sections.{answers}

-- A text has no more answers than bytes: that many are enough, and more make no difference.
abbrev pub AnswersAreEnough : Type 0
AnswersAreEnough = (most : ℕ) (text : List ℕ) → length text ≤ most → answers most text ≡ answers (length text) text
