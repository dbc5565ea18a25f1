-- The tables of a configuration under their names, in the order of the names' bytes.
use Rattle.std.specs.Prelude.{ℕ, List, Option}
use Rattle.std.specs.Cmp.Lexicographic.{slice_cmp}
use Rattle.std.specs.declared.cmp.Ordering.{Ordering}
use Rattle.std.specs.Ordering.{nat_cmp}
use Rattle.lookup_tables.specs.Entries.{value_of}
use Rattle.lookup_tables.specs.declared.table.Table.{Table}

-- names by their bytes
abbrev pub name_cmp : List ℕ → List ℕ → Ordering
name_cmp = slice_cmp nat_cmp

-- each name with its table
abbrev pub NamedTables : Type 0
NamedTables = List (List ℕ × Table)

-- the table of that name
abbrev pub table_named : NamedTables → List ℕ → Option Table
table_named tables name = value_of name_cmp tables name
