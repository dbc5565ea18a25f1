-- The lines of a text, each with the byte 10 that ends it.
use Rattle.std.specs.Prelude.{ℕ, List, [], ◌∷◌, ◌==◌, if◌then◌else◌}
use Rattle.std.specs.List.{onto_first}

-- the pieces that end with a byte 10; what stands behind the last one is a line without, where it isn't empty
unfoldable pub lines_with_ends : List ℕ → List (List ℕ)
lines_with_ends [] = []
lines_with_ends (byte ∷ bytes) = if byte == 10 then (byte ∷ []) ∷ lines_with_ends bytes else onto_first byte (lines_with_ends bytes)
