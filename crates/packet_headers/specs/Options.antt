-- The options of an IPv4 header (RFC 791 section 3.1).
use Rattle.std.specs.Prelude.{ℕ, ◌+◌, ◌-◌, List, [], ◌∷◌, length, zero, suc, Bool, ◌&&◌, ◌==◌, nat_le, if◌then◌else◌}
use Rattle.std.specs.List.{list_any}
use Rattle.packet_headers.specs.Octets.{octet}

-- The length byte, first of these bytes, counts itself and the type byte before it, so it is 2 or more,
-- and the option ends within the header.
abbrev pub is_length_sound : List ℕ → Bool
is_length_sound behind = nat_le 2 (octet behind 0) && nat_le (octet behind 0) (length behind + 1)

-- The types of the options in these bytes, of which the first few still belong to an option before.
-- Type 0 is the end of the options, type 1 a byte alone, and each other one has a length byte.
unfoldable pub types_behind : ℕ → List ℕ → List ℕ
types_behind few [] = []
types_behind (suc few) (_ ∷ bytes) = types_behind few bytes
types_behind zero (type ∷ bytes) =
    if type == 0 then 0 ∷ []
    else if type == 1 then 1 ∷ types_behind 0 bytes
    else if is_length_sound bytes then type ∷ types_behind (octet bytes 0 - 1) bytes
    else []

-- the types of the options of a header
abbrev pub option_types : List ℕ → List ℕ
option_types options = types_behind 0 options

-- an option of that type is there
abbrev pub has_option : ℕ → List ℕ → Bool
has_option type options = list_any (λ t. t == type) (option_types options)
