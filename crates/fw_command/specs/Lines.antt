-- The lines of a script.
use Rattle.std.specs.Prelude.{ℕ, List, [], ◌∷◌, ◌==◌}
use Rattle.std.specs.List.{slice_split}

-- all pieces but a last one that is empty
abbrev pub without_empty_end : List (List ℕ) → List (List ℕ)
without_empty_end [] = []
without_empty_end ([] ∷ []) = []
without_empty_end (piece ∷ pieces) = piece ∷ without_empty_end pieces

-- the pieces between bytes 10, a last one only where it isn't empty
unfoldable pub lines_of : List ℕ → List (List ℕ)
lines_of bytes = without_empty_end (slice_split (λ byte. byte == 10) bytes)
