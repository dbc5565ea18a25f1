-- IPv6 addresses and prefixes (RFC 4291 section 2.2).
use Rattle.std.specs.Prelude.{ℕ, ◌+◌, ◌-◌, ◌*◌, suc, Bool, ◌&&◌, ◌||◌, ◌==◌, nat_le, nat_eq, if◌then◌else◌, Option, Some, None, Result, Ok, List, [], ◌∷◌, ◌++◌, length, take, drop, replicate, codes}
use Rattle.std.specs.List.{list_all, list_any, slice_split, starts_with}
use Rattle.std.specs.Option.{option_map}
use Rattle.std.specs.Char.{is_ascii_digit}
use Rattle.fw_base.specs.Prefix6.{Network6, network6}
use Rattle.ipfw_parser.specs.declared.kind.Kind.TheVariants.{BadAddress, BadPrefix}
use Rattle.ipfw_parser.specs.Reading.{Word, Fault, ◌>>=◌}
use Rattle.ipfw_parser.specs.Numbers.{decimal, up_to}
use Rattle.ipfw_parser.specs.Parts.{part_before, part_behind, then_some, found_or}

-- a hexadecimal digit, in either case
abbrev pub is_hex : ℕ → Bool
is_hex byte = is_ascii_digit byte || (nat_le 65 byte && nat_le byte 70) || (nat_le 97 byte && nat_le byte 102)

-- what the digit counts
abbrev pub hex_value : ℕ → ℕ
hex_value byte = if nat_le byte 57 then byte - 48 else if nat_le byte 70 then byte - 55 else byte - 87

-- the number that hexadecimal digits write behind those of n
abbrev pub hex_after : ℕ → List ℕ → ℕ
hex_after n [] = n
hex_after n (digit ∷ digits) = hex_after (16 * n + hex_value digit) digits

-- the number that the hexadecimal digits write, where there are only those
unfoldable pub hex_number : List ℕ → Option ℕ
hex_number text = if list_all is_hex text then Some (hex_after 0 text) else None

-- a group: one to four hexadecimal digits
unfoldable pub group : List ℕ → Option ℕ
group text = if nat_le 1 (length text) && nat_le (length text) 4 then hex_number text else None

-- each of the texts as a group
unfoldable pub each_group : List (List ℕ) → Option (List ℕ)
each_group [] = Some []
each_group (text ∷ texts) =
    then_some (group text) (λ one.
    then_some (each_group texts) (λ others.
    Some (one ∷ others)))

-- the texts between colons
unfoldable pub colon_parts : List ℕ → List (List ℕ)
colon_parts text = slice_split (λ byte. byte == 58) text

-- the texts between the colons of what is left
abbrev pub colon_parts_left : Option (List ℕ) → List (List ℕ)
colon_parts_left None = []
colon_parts_left (Some text) = colon_parts text

-- the groups on one side of a `::`: none, or groups with single colons between them
unfoldable pub side : List ℕ → Option (List ℕ)
side [] = Some []
side (byte ∷ bytes) = each_group (colon_parts (byte ∷ bytes))

-- where the first `::` begins
unfoldable pub gap_in : List ℕ → Option ℕ
gap_in [] = None
gap_in (byte ∷ bytes) = if starts_with nat_eq (byte ∷ bytes) (codes "::") then Some 0 else option_map suc (gap_in bytes)

-- eight groups
unfoldable pub whole_groups : List ℕ → Option (List ℕ)
whole_groups groups = if nat_eq (length groups) 8 then Some groups else None

-- eight groups with those of the `::` between the others: one zero group or more
unfoldable pub filled_groups : List ℕ → List ℕ → Option (List ℕ)
filled_groups front back = if nat_le (length front + length back) 7 then Some (front ++ (replicate (8 - (length front + length back)) 0 ++ back)) else None

-- the eight groups of a text, by where its first `::` stands
abbrev pub groups_by : List ℕ → Option ℕ → Option (List ℕ)
groups_by text None = then_some (side text) whole_groups
groups_by text (Some at) =
    then_some (side (take at text)) (λ front.
    then_some (side (drop (at + 2) text)) (λ back.
    filled_groups front back))

-- the eight groups that the text writes; a second `::` leaves an empty group between two colons
unfoldable pub eight_groups : List ℕ → Option (List ℕ)
eight_groups text = groups_by text (gap_in text)

-- the number that groups of sixteen bits make behind n
abbrev pub address6_after : ℕ → List ℕ → ℕ
address6_after n [] = n
address6_after n (one ∷ groups) = address6_after (65536 * n + one) groups

-- the number of 128 bits that the text stands for
unfoldable pub address6_in : List ℕ → Option ℕ
address6_in text = option_map (address6_after 0) (eight_groups text)

-- an address of IPv6
unfoldable pub address6 : Word → Result ℕ Fault
address6 word = found_or BadAddress word.column (address6_in word.text)

-- a prefix's length, 0 to 128; an address without one is a prefix of 128
abbrev pub prefix6_length : ℕ → Option (List ℕ) → Result ℕ Fault
prefix6_length column None = Ok 128
prefix6_length column (Some text) = found_or BadPrefix column (up_to 128 (decimal 10 text))

-- an address with a length behind a `/`, or without one; host bits are cleared
unfoldable pub prefix6 : Word → Result Network6 Fault
prefix6 word = do
  a ← address6 (record { column = word.column; text = part_before 47 word.text })
  bits ← prefix6_length word.column (part_behind 47 word.text)
  Ok (network6 a bits)

-- an element of a list of addresses that has a colon is read as IPv6
unfoldable pub has_colon : List ℕ → Bool
has_colon text = list_any (λ byte. byte == 58) text
