-- Editions whose numbers, tags and names differ.
use Rattle.std.specs.Prelude.{ℕ, ◌-◌, ◌^◌, ◌/◌}
use Rattle.lock_tests.specs.declared.marked_edition.MarkedEdition.{MarkedEdition}

-- the edition of this number
abbrev pub marked_edition : ℕ → MarkedEdition
marked_edition number = record { tag = record { number = number; mark = 2 ^ 64 - 1 - number }; name = number / 2 }
