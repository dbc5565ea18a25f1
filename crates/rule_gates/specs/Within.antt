-- The numbers from a low end on, as many as a span and one.
use Rattle.std.specs.Prelude.{ℕ, ◌+◌, ◌^◌, ◌<◌, Bool, ◌&&◌, nat_le, List, slice_index}
use Rattle.rule_gates.specs.declared.interval.Interval.{Interval}

-- the number is one of the interval
abbrev pub is_within : Interval → ℕ → Bool
is_within interval number = nat_le interval.low number && nat_le number (interval.low + interval.span)

-- each of the words has thirty-two bits
abbrev pub AreWords : List ℕ → Type 0
AreWords words = (place : ℕ) → slice_index words place < 2 ^ 32
