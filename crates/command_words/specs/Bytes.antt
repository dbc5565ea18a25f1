-- Cutting a string of bytes.
use Rattle.std.specs.Prelude.{ℕ, ◌+◌, Bool, List, take, drop, length, position, Option, ◌==◌, nat_eq}
use Rattle.std.specs.Option.{option_map}
use Rattle.std.specs.Cmp.Lexicographic.{pointwise}

-- two strings are the same
abbrev pub is_same : List ℕ → List ℕ → Bool
is_same = pointwise nat_eq

-- nothing stands there
abbrev pub is_empty : List ℕ → Bool
is_empty bytes = length bytes == 0

-- what stands before the first such byte, and what stands behind it
unfoldable pub cut_at : ℕ → List ℕ → Option (List ℕ × List ℕ)
cut_at byte bytes = option_map (λ at. (take at bytes, drop (at + 1) bytes)) (position (λ b. b == byte) bytes)
