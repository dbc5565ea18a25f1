-- Bytes as a source of themselves, as a made capture is one.
use Rattle.std.specs.Prelude.{ℕ, List, Option, Some}

-- they tell what is left of them
abbrev pub known_left : List ℕ → Option (List ℕ)
known_left bytes = Some bytes

-- no read of them fails
abbrev pub no_failures : List ℕ → ℕ
no_failures bytes = 0
