-- How numbers stand in columns.
use Rattle.std.specs.Prelude.{ℕ, ◌-◌, List, ◌++◌, length, replicate, codes}
use Rattle.std.specs.Fmt.{decimal}

-- so many spaces
abbrev pub spaces : ℕ → List ℕ
spaces count = replicate count 32

-- a number so that it ends in a column of 8, behind at least one space
unfoldable pub number_text : ℕ → List ℕ
number_text number = spaces (8 - length (decimal number)) ++ (codes " " ++ decimal number)
