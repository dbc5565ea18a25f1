-- What a report tells, line by line.
use Rattle.std.specs.Prelude.{◌≡◌, ℕ, ◌+◌, unwrap_or, List, [], ◌∷◌, length, map}
use Rattle.std.specs.Arc.{arc_value}
use Rattle.report_reading.specs.Lines.{lines_with_ends}
use Rattle.report_reading.specs.Readings.{LineValue, OfRecord, OfPublication, OfAsk, OfLane, OfOther, reading_of}
use Rattle.run_audit.specs.JournalTold.{Lawful, replay, no_journal}
use Rattle.run_audit.specs.declared.told_report.ToldLane.{ToldLane}
use Rattle.run_audit.specs.declared.told_report.ToldRecord.{ToldRecord}
use Rattle.run_audit.specs.declared.told_report.ToldReport.{ToldReport}

-- what a line tells; one that has the form of none tells nothing
abbrev pub told_by : List ℕ → LineValue
told_by line = unwrap_or (reading_of line) OfOther

-- what the lines of a report tell, in their order
abbrev pub lines_told : List ℕ → List LineValue
lines_told report = map told_by (lines_with_ends report)

-- the record that the line of this number tells, where it is one of a record, before others
abbrev pub with_record : ℕ → LineValue → List ToldRecord → List ToldRecord
with_record number (OfRecord told) records = record { line = number; told = told } ∷ records
with_record number (OfPublication edition) records = records
with_record number (OfAsk told) records = records
with_record number (OfLane told) records = records
with_record number OfOther records = records

-- the records that lines tell, in their order; the first of these lines has this number
unfoldable pub records_from : ℕ → List LineValue → List ToldRecord
records_from number [] = []
records_from number (value ∷ values) = with_record number value (records_from (number + 1) values)

-- the lane that the line of this number tells, where it is one of a lane, before others
abbrev pub with_lane : ℕ → LineValue → List ToldLane → List ToldLane
with_lane number (OfRecord told) lanes = lanes
with_lane number (OfPublication edition) lanes = lanes
with_lane number (OfAsk told) lanes = lanes
with_lane number (OfLane told) lanes = record { line = number; told = told } ∷ lanes
with_lane number OfOther lanes = lanes

-- the lanes that lines tell, in their order; the first of these lines has this number
unfoldable pub lanes_from : ℕ → List LineValue → List ToldLane
lanes_from number [] = []
lanes_from number (value ∷ values) = with_lane number value (lanes_from (number + 1) values)

-- this line's number, where it is one of an ask, before others
abbrev pub with_ask_line : ℕ → LineValue → List ℕ → List ℕ
with_ask_line number (OfRecord told) lines = lines
with_ask_line number (OfPublication edition) lines = lines
with_ask_line number (OfAsk told) lines = number ∷ lines
with_ask_line number (OfLane told) lines = lines
with_ask_line number OfOther lines = lines

-- the numbers of the lines of asks, in their order; the first of these lines has this number
unfoldable pub ask_lines_from : ℕ → List LineValue → List ℕ
ask_lines_from number [] = []
ask_lines_from number (value ∷ values) = with_ask_line number value (ask_lines_from (number + 1) values)

-- This is what a report tells: its records, lanes and asks with their lines, and the journal that its publications and
-- asks are under these editions.
pub record IsTold (report : List ℕ) (told : ToldReport) : Type 0 where
  pub records : told.records.items ≡ records_from 1 (lines_told report)
  pub lanes : told.lanes.items ≡ lanes_from 1 (lines_told report)
  pub asks : told.ask_lines.items ≡ ask_lines_from 1 (lines_told report)
  pub lines : told.lines ≡ length (lines_with_ends report)
  pub journal : replay (map arc_value told.editions.items) 1 (lines_told report) no_journal ≡ Lawful told.book
