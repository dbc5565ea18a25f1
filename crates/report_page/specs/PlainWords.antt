-- Plain words for causes: a report tells a cause by one word, which is the last of a text.
use Rattle.std.specs.Prelude.{ℕ, ◌-◌, ◌==◌, ◌&&◌, ◌||◌, Bool, nat_eq, if◌then◌else◌, List, [], ◌∷◌, length, take, drop, codes}
use Rattle.std.specs.Cmp.Lexicographic.{pointwise}
use Rattle.std.specs.List.{ends_with}

-- the end of a text that is as long as a word
abbrev pub end_like : List ℕ → List ℕ → List ℕ
end_like text word = drop (length text - length word) text

-- what stands before that end
abbrev pub before_end_like : List ℕ → List ℕ → List ℕ
before_end_like text word = take (length text - length word) text

-- the last word of a text is this one: the text ends with it, alone or behind a blank
unfoldable pub ends_with_word : List ℕ → List ℕ → Bool
ends_with_word text word =
    pointwise nat_eq (end_like text word) word
    && (length (before_end_like text word) == 0 || ends_with nat_eq (before_end_like text word) (codes " "))

-- the plain words of the first row whose word is the text's last; a sentence of its own where no row has it
unfoldable pub words_for : List (List ℕ × List ℕ) → List ℕ → List ℕ
words_for [] text = codes "of this cause the page has no other words"
words_for (row ∷ rows) text = if ends_with_word text row.0 then row.1 else words_for rows text

-- what ends a capture: the report's word, and plain words for it
unfoldable pub fault_rows : List (List ℕ × List ℕ)
fault_rows =
    (codes "ShortHeader", codes "the capture ends in its header")
    ∷ (codes "BadMagic", codes "the file is no capture in pcap's format")
    ∷ (codes "BadVersion", codes "the capture's format isn't of version 2.4")
    ∷ (codes "UnknownLink", codes "the link type of the capture isn't known")
    ∷ (codes "ShortRecordHeader", codes "the capture ends in the header of this record")
    ∷ (codes "RecordTooLong", codes "this record is longer than 262,144 bytes")
    ∷ (codes "ShortRecord", codes "the capture ends in this record")
    ∷ (codes "TooManyPackets", codes "the capture has more records than are read")
    ∷ (codes "ReadFault", codes "the capture could not be read")
    ∷ []

-- why a command is refused: the report's word, and plain words for it
unfoldable pub refusal_rows : List (List ℕ × List ℕ)
refusal_rows =
    (codes "NoSuchRule", codes "no rule has that number")
    ∷ (codes "ReservedRule", codes "rule 65535 can't be changed")
    ∷ (codes "ReservedSet", codes "set 31 can't be changed")
    ∷ (codes "NoSuchTable", codes "no table has that name")
    ∷ (codes "EntryExists", codes "it is there already")
    ∷ (codes "NoSuchEntry", codes "the table has no such key")
    ∷ (codes "TableInUse", codes "a rule names the table")
    ∷ (codes "WrongType", codes "the table is of the other type")
    ∷ (codes "TooManyRules", codes "there are 65,535 rules already")
    ∷ (codes "TooManyCounters", codes "there are 16,777,216 counters already")
    ∷ (codes "TooManyNames", codes "there are 64 flow names already")
    ∷ (codes "OutOfMemory", codes "memory ran out")
    ∷ []

-- what ended a capture, by the text that tells it
unfoldable pub fault_words : List ℕ → List ℕ
fault_words text = words_for fault_rows text

-- why a command was refused, by the text that tells it
unfoldable pub refusal_words : List ℕ → List ℕ
refusal_words text = words_for refusal_rows text
