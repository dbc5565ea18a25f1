-- An IPv6 address as it is written (RFC 4291 section 2.2, RFC 5952 section 4).
use Rattle.std.specs.Prelude.{ℕ, ◌+◌, ◌-◌, ◌*◌, ◌/◌, ◌%◌, ◌^◌, suc, max, ◌==◌, nat_lt, nat_le, false, if◌then◌else◌, List, [], ◌∷◌, ◌++◌, take, drop, map, codes}
use Rattle.std.specs.List.{join_with_byte}
use Rattle.std.specs.Fmt.{digits, decimal}
use Rattle.fw_base.specs.Prefix6.{Network6}

-- the group at a place from 0 to 7: sixteen bits, those of the first the most significant
abbrev pub group_at : ℕ → ℕ → ℕ
group_at address place = address / 2 ^ (112 - 16 * place) % 2 ^ 16

-- the eight groups of an address
unfoldable pub groups_of : ℕ → List ℕ
groups_of address = map (group_at address) (0 ∷ 1 ∷ 2 ∷ 3 ∷ 4 ∷ 5 ∷ 6 ∷ 7 ∷ [])

-- a group in hexadecimal, in lower case and without leading zeros
abbrev pub hexadecimal : ℕ → List ℕ
hexadecimal group = digits 16 false group

-- groups with colons between them
abbrev pub groups_joined : List ℕ → List ℕ
groups_joined groups = join_with_byte 58 (map hexadecimal groups)

-- how many zero groups the list begins with
unfoldable pub leading_zeros : List ℕ → ℕ
leading_zeros [] = 0
leading_zeros (group ∷ groups) = if group == 0 then suc (leading_zeros groups) else 0

-- how many groups the longest run of zero groups has
unfoldable pub longest_run : List ℕ → ℕ
longest_run [] = 0
longest_run (group ∷ groups) = max (leading_zeros (group ∷ groups)) (longest_run groups)

-- where the first run of so many zero groups begins
unfoldable pub place_of_run : ℕ → List ℕ → ℕ
place_of_run count [] = 0
place_of_run count (group ∷ groups) = if nat_le count (leading_zeros (group ∷ groups)) then 0 else suc (place_of_run count groups)

-- the groups before a run, `::` in the run's place, and the groups behind it
abbrev pub shortened_text : List ℕ → ℕ → ℕ → List ℕ
shortened_text groups place count = groups_joined (take place groups) ++ (codes "::" ++ groups_joined (drop (place + count) groups))

-- the longest run of zero groups, the first of equal ones, is shortened where it has two or more
unfoldable pub groups_text : List ℕ → List ℕ
groups_text groups =
    if nat_lt (longest_run groups) 2 then groups_joined groups else shortened_text groups (place_of_run (longest_run groups) groups) (longest_run groups)

-- an address
unfoldable pub address6_text : ℕ → List ℕ
address6_text address = groups_text (groups_of address)

-- a prefix of 128 without its length
unfoldable pub network6_text : Network6 → List ℕ
network6_text n = address6_text n.address ++ (if n.bits == 128 then [] else 47 ∷ decimal n.bits)
