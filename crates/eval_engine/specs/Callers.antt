-- The numbers of the rules whose calls are open.
use Rattle.std.specs.Prelude.{ℕ, zero, suc, List, [], ◌∷◌, slice_index}

-- the first so many of the numbers, the last of them first
unfoldable pub innermost_first : List ℕ → ℕ → List ℕ
innermost_first numbers zero = []
innermost_first numbers (suc depth) = slice_index numbers depth ∷ innermost_first numbers depth
