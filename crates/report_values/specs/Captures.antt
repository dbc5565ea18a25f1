-- The lines of captures, by what was read of them.
use Rattle.std.specs.Prelude.{ℕ, ⊤, ◌≡◌, ◌≢◌, ◌<◌, ◌≤◌, ◌^◌, ◌==◌, ◌+◌, if◌then◌else◌, ◌||◌, Bool, true, false, is_some, Option, Some, None, List, [], ◌∷◌, ◌++◌, codes, decimal, length}
use Rattle.std.specs.Option.{option_map}
use Rattle.report_texts.specs.DocketText.{record_line, record_lines, end_line}
use Rattle.eval_engine.specs.declared.docket_entry.DocketEntry.{DocketEntry}
use Rattle.report_texts.specs.declared.capture_end.CaptureEnd.TheVariants.{Read}
use Rattle.report_values.specs.declared.capture.Capture.{Capture}
use Rattle.report_values.specs.declared.capture_lines.EndLine.{EndLine}
use Rattle.report_values.specs.declared.unfit.Unfit.{Unfit}
use Rattle.report_values.specs.declared.unfit.Unfit.TheVariants.{At, OutOfMemory}
use Rattle.report_reading.specs.Parts.{behind}
use Rattle.report_reading.specs.RecordLines.{IsRecord}
use Rattle.report_values.specs.Fields.{begins_with_digit}
use Rattle.report_values.specs.Lines.{whole_line}

-- the lines of a capture's records, and the one that tells how it ended
abbrev pub capture_lines : ℕ → Capture → List ℕ
capture_lines number capture = record_lines number 1 capture.records ++ capture.end.line.now

-- the lines of captures from this number on
abbrev pub captures_lines : ℕ → List Capture → List ℕ
captures_lines number [] = []
captures_lines number (capture ∷ captures) = capture_lines number capture ++ captures_lines (number + 1) captures

-- one line: its only byte 10 is its last
unfoldable pub is_line : List ℕ → Bool
is_line [] = false
is_line (byte ∷ bytes) = if byte == 10 then length bytes == 0 else is_line bytes

-- the line that tells how a capture ended: `end C records N`, N being how many records it has, or behind `fault C `
-- the record where a fault ended it and the fault
unfoldable pub end_text : ℕ → ℕ → Option (List ℕ) → List ℕ
end_text number records None = end_line number (Read records)
end_text number records (Some fault) = codes "fault " ++ (decimal number ++ (codes " " ++ (fault ++ codes "\n")))

-- one line that tells how the capture of this number ended, which has so many records
pub record IsEnd (number records : ℕ) (end : EndLine) : Type 0 where
  pub one : is_line end.line.now ≡ true
  pub told : end.line.now ≡ end_text number records (option_map (λ fault. fault.now) end.fault)

-- each capture from this number on has a line that tells how it ended
abbrev pub HaveEnds : ℕ → List Capture → Type 0
HaveEnds number [] = Unit {0}
HaveEnds number (capture ∷ captures) = IsEnd number (length capture.records) capture.end × HaveEnds (number + 1) captures

-- `end C records N` and what stands behind it
abbrev pub count_text : ℕ → ℕ → List ℕ → List ℕ
count_text number records rest = codes "end " ++ (decimal number ++ (codes " records " ++ (decimal records ++ rest)))

-- a text begins as a line of captures does
unfoldable pub begins_capture_line : List ℕ → Bool
begins_capture_line text = begins_with_digit text || (is_some (behind (codes "end ") text) || is_some (behind (codes "fault ") text))

-- behind the lines of the captures: no line of a record stands at the front, of whatever capture, nor one that tells
-- how a capture ended
pub record IsBehindCaptures (bytes : List ℕ) : Type 0 where
  pub records : (capture at : ℕ) (entry : DocketEntry) (rest : List ℕ) → capture < 2 ^ 64 → bytes ≢ record_line capture at entry ++ rest
  pub ends : (rest : List ℕ) → bytes ≢ codes "end " ++ rest
  pub faults : (rest : List ℕ) → bytes ≢ codes "fault " ++ rest

-- the next line isn't the line of this record
abbrev pub IsNoRecord : ℕ → ℕ → List ℕ → Type 0
IsNoRecord capture at text = (entry : DocketEntry) (rest : List ℕ) → IsRecord capture at entry → whole_line text ≢ Some (record_line capture at entry, rest)

-- nor one that tells how the capture of this number ended with so many records; captures are 1 to 16
abbrev pub IsNoEnd : ℕ → ℕ → List ℕ → Type 0
IsNoEnd number records text =
    (fault : Option (List ℕ)) (rest : List ℕ) → number ≤ 16 → whole_line text ≢ Some (end_text number records fault, rest)

-- the capture of this number has these lines to the one with which this rest begins, which is neither that of its next
-- record nor that of its end
pub record IsCutOff (number : ℕ) (text at : List ℕ) : Type 0 where
  pub entries : List DocketEntry
  pub lines : text ≡ record_lines number 1 entries ++ at
  pub no_record : IsNoRecord number (1 + length entries) at
  pub no_end : IsNoEnd number (length entries) at

-- These captures are whole, and behind them begins a line of captures, but no whole capture more: the line with which
-- this rest begins is the first that none has.
pub record IsUnfitCapture (text at : List ℕ) : Type 0 where
  pub captures : List Capture
  pub behind : List ℕ
  pub lines : text ≡ captures_lines 1 captures ++ behind
  pub ends : HaveEnds 1 captures
  pub more : begins_capture_line behind ≡ true
  pub cut : IsCutOff (1 + length captures) behind at

-- why captures aren't read; want of memory needs no cause
abbrev pub HasCause : List ℕ → Unfit → Type 0
HasCause text (At from) = IsUnfitCapture text from.now
HasCause text OutOfMemory = ⊤
