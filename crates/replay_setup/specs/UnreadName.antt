-- What is printed of a name that could not be opened or read.
use Rattle.std.specs.Prelude.{ℕ, List, ◌++◌, codes}

-- which name it is
unfoldable pub unread_text : List ℕ → List ℕ
unread_text name = codes "cannot read " ++ (name ++ codes "\n")
