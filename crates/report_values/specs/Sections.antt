-- The sections of a report behind its captures, line by line, as far as a reader looks that wants their numbers.
use Rattle.std.specs.Prelude.{◌≡◌, ⊤, Bool, true, false, ℕ, zero, suc, is_some, if◌then◌else◌, Option, Some, None, Result, Ok, Err, List, [], ◌∷◌, codes, length}
use Rattle.std.specs.Option.{option_map}
use Rattle.report_reading.specs.Parts.{behind}
use Rattle.fw_base.specs.Chain.{or_else}
use Rattle.report_values.specs.Fields.{whole_number, edition_in, entries_in, rule_number_at, counted_rule, hits_in, lane_in}
use Rattle.report_values.specs.Lines.{◌>>=◌, any, line_of, lines_of, or_at, told_at}
use Rattle.report_values.specs.declared.unfit.Unfit.{Unfit}
use Rattle.report_values.specs.declared.unfit.Unfit.TheVariants.{At, OutOfMemory}

-- what stands behind, where lines are there or not
abbrev pub Lines : Type 0
Lines = Result (List ℕ) (List ℕ)

-- `rules N`, and as many lines, each with the number of a rule at its front
unfoldable pub listing : List ℕ → Lines
listing text = line_of whole_number (codes "rules ") text >>= λ line. lines_of (λ number. rule_number_at) [] 1 line.0 line.1

-- the lines of a listing, behind the edition that its first line tells
abbrev pub listing_of : List ℕ → List ℕ × List ℕ → Lines
listing_of text line = or_at text (edition_in line.0) >>= λ edition. listing line.1

-- the lines of a table's entries, behind the first, which tells how many there are
abbrev pub entries_of : List ℕ → List ℕ × List ℕ → Lines
entries_of text line = or_at text (entries_in line.0) >>= λ count. lines_of any [] 1 count line.1

-- the answer to a line of the script, if one stands at the front: `refused ..`, `list line L edition E` with the rules
-- listed, or `table NAME ..` with its entries
unfoldable pub answer : List ℕ → Option Lines
answer text =
    or_else (option_map (λ line. Ok line.1) (told_at (codes "refused ") text))
    (or_else (option_map (listing_of text) (told_at (codes "list line ") text)) (option_map (entries_of text) (told_at (codes "table ") text)))

-- what stands behind an answer, where there is one: more of them
abbrev pub behind_answer : (List ℕ → Lines) → List ℕ → Option Lines → Lines
behind_answer more text None = Ok text
behind_answer more text (Some lines) = lines >>= more

-- all answers that stand at the front, at most so many
unfoldable pub answers : ℕ → List ℕ → Lines
answers zero text = Ok text
answers (suc most) text = behind_answer (answers most) text (answer text)

-- An answer is read, or there is none.
abbrev pub ReadsAnswer : Option Lines → List ℕ → List ℕ → Result Bool Unfit → Type 0
ReadsAnswer found text rest (Ok true) = found ≡ Some (Ok rest)
ReadsAnswer found text rest (Ok false) = (found ≡ None) × (rest ≡ text)
ReadsAnswer found text rest (Err (At from)) = found ≡ Some (Err from.now)
ReadsAnswer found text rest (Err OutOfMemory) = ⊤

-- what stands behind a line with the disabled sets, which may lack
abbrev pub behind_disabled : List ℕ → Option (List ℕ × List ℕ) → List ℕ
behind_disabled text None = text
behind_disabled text (Some line) = line.1

-- the rules of the last edition with what they counted
unfoldable pub rules : List ℕ → Lines
rules text = line_of whole_number (codes "rules ") text >>= λ line. lines_of (λ number. counted_rule) [] 1 line.0 line.1

-- the live states
unfoldable pub states : List ℕ → Lines
states text = line_of whole_number (codes "states ") text >>= λ line. lines_of any [] 1 line.0 line.1

-- a line for each capture's cache, where there are any
unfoldable pub caches : ℕ → List ℕ → Lines
caches captures text =
    if is_some (behind (codes "cache ") text) then lines_of hits_in (codes "cache ") 1 captures text else Ok text

-- the journal's entries behind its first line, which tells how many there are, and a line for each capture's lane
unfoldable pub journal_of : ℕ → List ℕ → List ℕ × List ℕ → Lines
journal_of captures text line =
    or_at text (whole_number line.0) >>= λ entries. lines_of any [] 1 entries line.1 >>= λ rest. lines_of lane_in (codes "lane ") 1 captures rest

-- a journal, where there is one
abbrev pub journal_if : ℕ → List ℕ → Option (List ℕ × List ℕ) → Lines
journal_if captures text None = Ok text
journal_if captures text (Some line) = journal_of captures text line

-- nothing is left
abbrev pub ended : List ℕ → Lines
ended [] = Ok []
ended (byte ∷ bytes) = Err (byte ∷ bytes)

-- All sections, to the text's end. No text has more answers than bytes (specs/Laws).
unfoldable pub sections : ℕ → List ℕ → Lines
sections captures text = do
  answered ← answers (length text) text
  editions ← line_of whole_number (codes "editions ") answered
  counted ← rules (behind_disabled editions.1 (told_at (codes "disabled ") editions.1))
  clock ← line_of whole_number (codes "clock ") counted
  told ← states clock.1
  cached ← caches captures told
  journaled ← journal_if captures cached (told_at (codes "journal 2 ") cached)
  ended journaled
