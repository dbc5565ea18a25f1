-- The numbers that stand between the words of a line.
use Rattle.std.specs.Prelude.{ℕ, ◌==◌, nat_le, if◌then◌else◌, Bool, false, Option, Some, None, List, [], ◌∷◌, codes, drop, position}
use Rattle.std.specs.Char.{is_ascii_digit}
use Rattle.report_reading.specs.Parts.{Part, behind, number_on}
use Rattle.fw_base.specs.Chain.{◌>>=◌, or_else}

-- a text begins with a digit
unfoldable pub begins_with_digit : List ℕ → Bool
begins_with_digit [] = false
begins_with_digit (byte ∷ bytes) = is_ascii_digit byte

-- the number of 64 bits that the digits at the front write, of which there is one at least
unfoldable pub number_at : List ℕ → Part ℕ
number_at text = if begins_with_digit text then number_on 18446744073709551615 0 text else None

-- a number that is all of a text
abbrev pub whole : Part ℕ → Option ℕ
whole None = None
whole (Some (number, [])) = Some number
whole (Some (number, byte ∷ bytes)) = None

-- the number that a whole text writes
unfoldable pub whole_number : List ℕ → Option ℕ
whole_number text = whole (number_at text)

-- a number and this word behind it
unfoldable pub number_before : List ℕ → List ℕ → Part ℕ
number_before word text = do
  number ← number_at text
  rest ← behind word number.1
  Some (number.0, rest)

-- the number of a rule, and the space behind it
unfoldable pub rule_number_at : List ℕ → Part ℕ
rule_number_at text = do
  number ← number_before (codes " ") text
  if nat_le number.0 65535 then Some number else None

-- `L edition E`: the edition
unfoldable pub edition_in : List ℕ → Option ℕ
edition_in text = do
  line ← number_before (codes " edition ") text
  whole_number line.1

-- ` addr ` or ` number `, of which one stands behind a table's name
unfoldable pub behind_kind : List ℕ → Option (List ℕ)
behind_kind text = or_else (behind (codes " addr ") text) (behind (codes " number ") text)

-- `NAME addr N line L edition E` or `NAME number ..`: how many entries the table has
unfoldable pub entries_in : List ℕ → Option ℕ
entries_in text = do
  blank ← position (λ byte. byte == 32) text
  kind ← behind_kind (drop blank text)
  entries ← number_before (codes " line ") kind
  edition ← edition_in entries.1
  Some entries.0

-- `RULE PACKETS BYTES TEXT`
unfoldable pub counted_rule : List ℕ → Option (ℕ × ℕ × ℕ × List ℕ)
counted_rule text = do
  rule ← rule_number_at text
  packets ← number_before (codes " ") rule.1
  bytes ← number_before (codes " ") packets.1
  Some (rule.0, packets.0, bytes.0, bytes.1)

-- `C hits N`, where C is this capture: the hits
unfoldable pub hits_in : ℕ → List ℕ → Option ℕ
hits_in capture text = do
  number ← number_before (codes " hits ") text
  hits ← whole_number number.1
  if number.0 == capture then Some hits else None

-- `C refused N tracker W`, where C is this capture: the tracker
unfoldable pub lane_in : ℕ → List ℕ → Option ℕ
lane_in capture text = do
  number ← number_before (codes " refused ") text
  refused ← number_before (codes " tracker ") number.1
  tracker ← whole_number refused.1
  if number.0 == capture then Some tracker else None
