-- The lines of a text.
use Rattle.std.specs.Prelude.{◌≡◌, ℕ, ◌+◌, ◌==◌, if◌then◌else◌, List, [], ◌∷◌, length}
use Rattle.eval_engine.specs.declared.docket_entry.DocketEntry.{DocketEntry}
use Rattle.report_texts.specs.DocketText.{record_lines}

-- each line ends with byte 10
unfoldable pub lines_in : List ℕ → ℕ
lines_in [] = 0
lines_in (byte ∷ bytes) = if byte == 10 then 1 + lines_in bytes else lines_in bytes

-- a capture has as many lines of records as records
abbrev pub RecordLinesAreRecords : Type 0
RecordLinesAreRecords = (capture at : ℕ) (entries : List DocketEntry) → lines_in (record_lines capture at entries) ≡ length entries
