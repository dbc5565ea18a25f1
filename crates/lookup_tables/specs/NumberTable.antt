-- A number table: the entry of the equal key answers.
use Rattle.std.specs.Prelude.{ℕ, List, Option}
use Rattle.std.specs.Ordering.{nat_cmp}
use Rattle.lookup_tables.specs.Entries.{value_of}

-- its numbers, each with its value
abbrev pub NumberEntries : Type 0
NumberEntries = List (ℕ × ℕ)

-- the table's answer: the value of the equal key
abbrev pub number_answer : NumberEntries → ℕ → Option ℕ
number_answer = value_of nat_cmp
