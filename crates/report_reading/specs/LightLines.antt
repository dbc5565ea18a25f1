-- The lines of a report of which only the whole text counts: ends of captures, answers, rules, states and headings. They
-- need no more form than tells them from the line of a record, an entry or a lane.
use Rattle.std.specs.Prelude.{ℕ, ◌-◌, Bool, ◌==◌, ◌||◌, ◌&&◌, nat_le, is_some, Option, List, [], ◌∷◌, length, slice_index, codes}
use Rattle.fw_base.specs.Chain.{◌>>=◌}
use Rattle.report_reading.specs.Parts.{behind, ended, number_at, rule_number_at}
use Rattle.report_reading.specs.RecordLines.{named_code_at}
use Rattle.report_reading.specs.FlowTexts.{octets_at}

-- the words with which such lines begin, each before a space
unfoldable pub head_words : List (List ℕ)
head_words =
    codes "end" ∷ codes "fault" ∷ codes "refused line" ∷ codes "list line" ∷ codes "rules" ∷ codes "table" ∷ codes "editions" ∷ codes "disabled"
    ∷ codes "clock" ∷ codes "states" ∷ codes "journal 2" ∷ []

-- a line begins with one of these words and a space
unfoldable pub has_head : List ℕ → Bool
has_head line = is_some (named_code_at head_words 0 line)

-- what stands behind the number of a rule and a space
unfoldable pub behind_rule_number : List ℕ → Option (List ℕ)
behind_rule_number line = do
  number ← rule_number_at line
  behind (codes " ") number.1

-- a line begins with the number of a rule and a space
unfoldable pub has_rule_number : List ℕ → Bool
has_rule_number line = is_some (behind_rule_number line)

-- a line has its byte 10
unfoldable pub has_end : List ℕ → Bool
has_end line = nat_le 1 (length line) && slice_index line (length line - 1) == 10

-- the value of an entry of a table of addresses: a prefix with its length, and a value of 32 bits
unfoldable pub address_entry_in : List ℕ → Option ℕ
address_entry_in line = do
  octets ← octets_at line
  front ← behind (codes "/") octets.1
  bits ← number_at 32 front
  gap ← behind (codes " ") bits.1
  value ← number_at 4294967295 gap
  ended value.0 value.1

-- the value of an entry of a table of numbers: a number and a value of 32 bits
unfoldable pub number_entry_in : List ℕ → Option ℕ
number_entry_in line = do
  number ← number_at 4294967295 line
  gap ← behind (codes " ") number.1
  value ← number_at 4294967295 gap
  ended value.0 value.1

-- a line is of these: whole, with a known word or a rule's number before a space, or an entry of a table
unfoldable pub is_light : List ℕ → Bool
is_light line =
    (has_end line && (has_head line || has_rule_number line)) || (is_some (address_entry_in line) || is_some (number_entry_in line))
