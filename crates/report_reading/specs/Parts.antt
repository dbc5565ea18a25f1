-- The parts of a line: each is read from the front of a text, and tells its value and the text behind it.
use Rattle.std.specs.Prelude.{ℕ, ◌+◌, ◌-◌, ◌*◌, ◌==◌, nat_le, if◌then◌else◌, Option, Some, None, List, [], ◌∷◌, take, drop, length, codes, nat_eq}
use Rattle.std.specs.Cmp.Lexicographic.{pointwise}
use Rattle.std.specs.Char.{is_ascii_digit}
use Rattle.fw_base.specs.Chain.{◌>>=◌}

-- a value and the text behind it, where a text begins with such a part
abbrev pub Part : Type 0 → Type 0
Part A = Option (A × List ℕ)

-- the text behind a word that a text begins with
unfoldable pub behind : List ℕ → List ℕ → Option (List ℕ)
behind [] bytes = Some bytes
behind (letter ∷ word) [] = None
behind (letter ∷ word) (byte ∷ bytes) = if letter == byte then behind word bytes else None

-- this value, where a text begins with this word
abbrev pub told_by : {A : Type 0} → List ℕ → A → List ℕ → Part A
told_by word value bytes = behind word bytes >>= λ rest. Some (value, rest)

-- this value, where a text is this word
abbrev pub told_where : {A : Type 0} → List ℕ → A → List ℕ → Option A
told_where word value bytes = if pointwise nat_eq bytes word then Some value else None

-- this value, where the line ends here
abbrev pub ended : {A : Type 0} → A → List ℕ → Option A
ended value bytes = told_where (codes "\n") value bytes

-- the number that a number and the digits behind it write, where it is at most so great
unfoldable pub number_on : ℕ → ℕ → List ℕ → Part ℕ
number_on most value [] = Some (value, [])
number_on most value (byte ∷ bytes) =
    if is_ascii_digit byte then
    if nat_le (10 * value + (byte - 48)) most then number_on most (10 * value + (byte - 48)) bytes else None
    else Some (value, byte ∷ bytes)

-- a number from 1 on without leading zeros
unfoldable pub positive_at : ℕ → List ℕ → Part ℕ
positive_at most [] = None
positive_at most (byte ∷ bytes) =
    if byte == 48 then None else if is_ascii_digit byte then number_on most 0 (byte ∷ bytes) else None

-- a number without leading zeros: 0 is one digit
unfoldable pub number_at : ℕ → List ℕ → Part ℕ
number_at most [] = None
number_at most (byte ∷ bytes) = if byte == 48 then Some (0, bytes) else positive_at most (byte ∷ bytes)

-- a number that is all of a text
abbrev pub whole : Part ℕ → List ℕ → Part ℕ
whole None behind = None
whole (Some (n, [])) behind = Some (n, behind)
whole (Some (n, byte ∷ bytes)) behind = None

-- the number of a rule: five digits
unfoldable pub rule_number_at : List ℕ → Part ℕ
rule_number_at bytes =
    if nat_le 5 (length bytes) then whole (number_on 65535 0 (take 5 bytes)) (drop 5 bytes) else None
