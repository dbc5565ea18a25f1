-- The groups on one side of a `::` as the number that they make.
use Rattle.std.specs.Prelude.{ℕ, ◌+◌, ◌-◌, ◌*◌, ◌^◌, ◌==◌, nat_le, if◌then◌else◌, Option, Some, None, List, length, take, drop}
use Rattle.ipfw_parser.specs.Parts.{then_some}
use Rattle.ipfw_parser.specs.Addresses6.{side, gap_in, address6_after}
use Rattle.ipfw_parser.specs.declared.addresses6.Side.{Side}

-- at most eight groups
abbrev pub side_of : Option (List ℕ) → Option Side
side_of None = None
side_of (Some groups) = if nat_le (length groups) 8 then Some (record { value = address6_after 0 groups; count = length groups }) else None

-- the number of eight groups
unfoldable pub whole_value : Side → Option ℕ
whole_value found = if found.count == 8 then Some found.value else None

-- the number of the groups before and behind a `::`
unfoldable pub filled_value : Side → Side → Option ℕ
filled_value front back = if nat_le (front.count + back.count) 7 then Some (front.value * 2 ^ (16 * (8 - front.count)) + back.value) else None

-- the number of an address, by where its first `::` stands
abbrev pub value_by : List ℕ → Option ℕ → Option ℕ
value_by text None = then_some (side_of (side text)) whole_value
value_by text (Some at) =
    then_some (side_of (side (take at text))) (λ front.
    then_some (side_of (side (drop (at + 2) text))) (λ back.
    filled_value front back))

-- an address by the numbers of its sides
unfoldable pub address6_value : List ℕ → Option ℕ
address6_value text = value_by text (gap_in text)
