-- A record of a capture beside what a report tells of it: its line, and its asks in the journal.
use Rattle.std.specs.Prelude.{◌≡◌, ℕ, ◌+◌, ◌≤◌, ◌<◌, Bool, ◌&&◌, ◌==◌, Option, None, Some, IfSome, IsSomeAnd, List, [], ◌∷◌, ◌++◌, length, find, slice_get}
use Rattle.std.specs.List.{AllByRecursion}
use Rattle.eval_engine.specs.Dockets.{judgement_in}
use Rattle.eval_engine.specs.declared.docket_entry.DocketEntry.{DocketEntry}
use Rattle.fw_world.specs.Asks.{LaneAsk, asks_of_record, lane_asks}
use Rattle.fw_world.specs.Entries.{EachRecord, IsEntryFor, IsEvaluated}
use Rattle.fw_world.specs.Inputs.{Input}
use Rattle.generation_store.specs.Published.{Published}
use Rattle.report_reading.specs.RecordLines.{printed}
use Rattle.state_journal.specs.Journal.{Journal}
use Rattle.run_audit.specs.declared.told_report.ToldLane.{ToldLane}
use Rattle.run_audit.specs.declared.told_report.ToldRecord.{ToldRecord}

-- what a report tells that has its form and its journal, as values
pub record ToldValue : Type 0 where
  pub editions : List Published
  pub journal : Journal
  -- the lines of records, of lanes, and of asks by their numbers alone, each in the report's order
  pub records : List ToldRecord
  pub lanes : List ToldLane
  pub ask_lines : List ℕ
  -- how many lines there are
  pub lines : ℕ

-- the line names this record
abbrev pub names_record : ℕ → ℕ → ToldRecord → Bool
names_record lane at one = one.told.capture == lane && one.told.at == at

-- the first line that names this record
abbrev pub line_naming : ToldValue → ℕ → ℕ → Option ToldRecord
line_naming told lane at = find (names_record lane at) told.records

-- the number of a line; where the line lacks, it is one past the last
abbrev pub number_or_last : ToldValue → Option ToldRecord → ℕ
number_or_last told None = told.lines + 1
number_or_last told (Some one) = one.line

-- the asks of a lane in the journal
abbrev pub asks_told : ToldValue → ℕ → List LaneAsk
asks_told told lane = lane_asks lane told.journal.entries

-- Each ask of this record was made under this edition, and none behind an ask of a later record.
pub record AreTimely (asks : List LaneAsk) (at edition : ℕ) : Type 0 where
  pub under : AllByRecursion (λ ask. ask.after ≡ edition) (asks_of_record at asks)
  pub ordered : (early late : ℕ) (before own : LaneAsk) → early < late → slice_get asks early ≡ Some before → slice_get asks late ≡ Some own → own.at ≡ at
      → before.at ≤ at

-- A record is as the report tells it: its line is that of this entry, which is the one for what was captured; a packet
-- was judged so under its edition with the replies to its asks, which came in time.
pub record IsToldSo (told : ToldValue) (lane at : ℕ) (input : Input) (entry : DocketEntry) : Type 0 where
  pub named : IsSomeAnd (line_naming told lane at) (λ one. one.told.entry ≡ printed entry)
  pub entered : IsEntryFor at input entry
  pub evaluated : IsEvaluated told.editions (asks_told told lane) at input entry
  pub timely : IfSome (judgement_in entry) (λ judgement. AreTimely (asks_told told lane) at judgement.edition)

-- so it is with all records of these lanes, from this lane on
abbrev pub AreToldSo : ToldValue → ℕ → List (List Input) → List (List DocketEntry) → Type 0
AreToldSo told lane [] [] = Unit {0}
AreToldSo told lane [] (entries ∷ dockets) = ⊥
AreToldSo told lane (inputs ∷ others) [] = ⊥
AreToldSo told lane (inputs ∷ others) (entries ∷ dockets) =
    EachRecord (IsToldSo told lane) 1 inputs entries × AreToldSo told (lane + 1) others dockets

-- A record is the first, in the order of captures and records, that isn't as the report tells it; this is its line.
pub record FailsAtRecord (told : ToldValue) (inputs : List (List Input)) (line : ℕ) : Type 0 where
  -- the captures before, and those behind
  pub before : List (List Input)
  pub behind : List (List Input)
  -- the records of its capture before it, the record, and those behind it
  pub front : List Input
  pub input : Input
  pub rest : List Input
  pub split : inputs ≡ before ++ (front ++ input ∷ rest) ∷ behind
  pub dockets : List (List DocketEntry)
  pub told_before : AreToldSo told 1 (before ++ front ∷ []) dockets
  pub wrong : (entry : DocketEntry) → IsToldSo told (length before + 1) (length front + 1) input entry → ⊥
  pub named : line ≡ number_or_last told (line_naming told (length before + 1) (length front + 1))
