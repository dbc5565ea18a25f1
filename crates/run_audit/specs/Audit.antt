-- What an audit comes to: yes, or the first line of the report that is wrong in the first pass that finds one.
use Rattle.std.specs.Prelude.{◌≡◌, ◌⊎◌, ℕ, zero, suc, ◌+◌, ◌-◌, ◌<◌, ◌≤◌, IsSomeAnd, Option, Some, None, List, [], ◌∷◌, ◌++◌, length, slice_get, map}
use Rattle.std.specs.Arc.{arc_value}
use Rattle.counter_book.specs.declared.tally.Count.{Count}
use Rattle.eval_engine.specs.Dockets.{DocketValue}
use Rattle.eval_engine.specs.declared.docket_entry.DocketEntry.{DocketEntry}
use Rattle.fw_command.specs.declared.script.Step.{Step}
use Rattle.report_texts.specs.declared.ends.LineAnswer.{LineAnswer}
use Rattle.fw_world.specs.Editions.{AreEditions}
use Rattle.fw_world.specs.Inputs.{Input}
use Rattle.fw_world.specs.Legal.{IsLegal}
use Rattle.fw_world.specs.RecordValue.{RecordValue}
use Rattle.fw_world.specs.Tallies.{lane_hits, IsTallyOf}
use Rattle.generation_store.specs.Published.{Published}
use Rattle.report_reading.specs.Lines.{lines_with_ends}
use Rattle.rule_chain.specs.Configuration.{Configuration}
use Rattle.state_journal.specs.Journal.{Journal}
use Rattle.capture_tracks.specs.Commands.{lines_outcome}
use Rattle.run_audit.specs.JournalTold.{Lawful, no_journal, replay}
use Rattle.run_audit.specs.Judging.{ToldValue, AreToldSo, FailsAtRecord, asks_told}
use Rattle.run_audit.specs.Opening.{opening_fault}
use Rattle.run_audit.specs.OtherLines.{IsFirstBehind, IsWrongBehind, lane_naming}
use Rattle.run_audit.specs.ToldReport.{lines_told, records_from, lanes_from, ask_lines_from}
use Rattle.run_audit.specs.declared.audit_fault.AuditFault.{AuditFault}
use Rattle.run_audit.specs.declared.rebuilt.Rebuilt.{Rebuilt}
use Rattle.run_audit.specs.declared.audit_fault.AuditFault.TheVariants.{Wrong, OutOfMemory}

-- the editions that a script's first configuration and the steps behind `live` make
abbrev pub AreEditionsOf : Configuration → List Step → List Published → Type 0
AreEditionsOf config steps editions = AreEditions config (lines_outcome config steps).accepted editions

-- what a report tells under these editions, with this journal
abbrev pub told_value : List Published → Journal → List ℕ → ToldValue
told_value editions journal report = record {
  editions = editions;
  journal = journal;
  records = records_from 1 (lines_told report);
  lanes = lanes_from 1 (lines_told report);
  ask_lines = ask_lines_from 1 (lines_told report);
  lines = length (lines_with_ends report);
}

-- The report has its form, and its journal is this one under these editions, which the script makes.
pub record IsOpened (config : Configuration) (steps : List Step) (report : List ℕ) (editions : List Published) (journal : Journal) : Type 0 where
  pub made : AreEditionsOf config steps editions
  pub right : opening_fault editions report ≡ None
  pub replayed : replay editions 1 (lines_told report) no_journal ≡ Lawful journal

-- This line is the first that is wrong before a record is looked at.
pub record FailsAtOpening (config : Configuration) (steps : List Step) (report : List ℕ) (line : ℕ) : Type 0 where
  pub editions : List Published
  pub made : AreEditionsOf config steps editions
  pub found : opening_fault editions report ≡ Some line

-- This is the line of the first record that isn't as the report tells it.
pub record FailsAtInput (config : Configuration) (steps : List Step) (report : List ℕ) (inputs : List (List Input)) (line : ℕ) : Type 0 where
  pub editions : List Published
  pub journal : Journal
  pub opened : IsOpened config steps report editions journal
  pub found : FailsAtRecord (told_value editions journal report) inputs line

-- All records are as the report tells them, and this line is the first that is wrong behind them.
pub record FailsBehind (config : Configuration) (steps : List Step) (report : List ℕ) (inputs : List (List Input)) (line : ℕ) : Type 0 where
  pub editions : List Published
  pub journal : Journal
  pub opened : IsOpened config steps report editions journal
  pub dockets : List (List DocketEntry)
  pub told : AreToldSo (told_value editions journal report) 1 inputs dockets
  pub found : IsFirstBehind (told_value editions journal report) (lines_told report) dockets line

-- The first line of a report that is wrong beside this script and the captures' records: in the form of its lines, else
-- in its journal, else at a record, else behind them.
abbrev pub IsFirstWrong : Configuration → List Step → List ℕ → List (List Input) → ℕ → Type 0
IsFirstWrong config steps report inputs line =
    FailsAtOpening config steps report line ⊎ FailsAtInput config steps report inputs line ⊎ FailsBehind config steps report inputs line

-- ---- an audit that is under way

-- nothing was entered for a lane
abbrev pub no_docket : DocketValue
no_docket = record { entries = []; refused = 0 }

-- what is audited, what was entered and counted so far, the lane of the last record, and the fault, if one came
pub record AuditValue : Type 0 where
  pub report : List ℕ
  pub editions : List Published
  pub answers : List LineAnswer
  pub journal : Journal
  pub dockets : List (List DocketEntry)
  pub tallies : List (List Count)
  pub lane : ℕ
  pub fault : Option AuditFault

-- the tallies of these lanes are those of their records, from this lane on
abbrev pub AreTalliesOf : ToldValue → ℕ → List (List Input) → List (List DocketEntry) → List (List Count) → Type 0
AreTalliesOf told lane [] [] [] = Unit {0}
AreTalliesOf told lane (inputs ∷ others) (entries ∷ dockets) (tally ∷ tallies) =
    IsTallyOf (lane_hits told.editions (asks_told told lane) 1 inputs entries) tally × AreTalliesOf told (lane + 1) others dockets tallies
AreTalliesOf told lane inputs dockets tallies = ⊥

-- no fault came, and all records are as the report tells them; or this line is that of the first that isn't; or memory ran out
abbrev pub StandsFor : Configuration → List Step → AuditValue → List (List Input) → Option AuditFault → Type 0
StandsFor config steps audit inputs None =
    AreToldSo (told_value audit.editions audit.journal audit.report) 1 inputs audit.dockets
    × AreTalliesOf (told_value audit.editions audit.journal audit.report) 1 inputs audit.dockets audit.tallies
StandsFor config steps audit inputs (Some (Wrong line)) = FailsAtInput config steps audit.report inputs line
StandsFor config steps audit inputs (Some OutOfMemory) = Unit {0}

-- The audit of a report beside a script met these records of its captures, those of a capture behind those before it.
pub record IsAuditOf (config : Configuration) (steps : List Step) (report : List ℕ) (inputs : List (List Input)) (audit : AuditValue) : Type 0 where
  pub reported : audit.report ≡ report
  pub opened : IsOpened config steps audit.report audit.editions audit.journal
  pub answered : audit.answers ≡ (lines_outcome config steps).answers
  pub captures : length audit.dockets ≡ length inputs
  -- none of a capture behind the last one
  pub ordered : (capture : ℕ) → audit.lane ≤ capture → capture < length inputs → slice_get inputs capture ≡ Some []
  pub stands : StandsFor config steps audit inputs audit.fault

-- one record more of the capture in this place
abbrev pub with_input : ℕ → Input → List (List Input) → List (List Input)
with_input place input [] = []
with_input zero input (own ∷ others) = (own ++ input ∷ []) ∷ others
with_input (suc place) input (own ∷ others) = own ∷ with_input place input others

-- The record was met: the audit is one of it too.
abbrev pub Meets : Configuration → List Step → List ℕ → ℕ → Input → AuditValue → AuditValue → Type 0
Meets config steps report lane input old new =
    (inputs : List (List Input)) → IsAuditOf config steps report inputs old → IsAuditOf config steps report (with_input (lane - 1) input inputs) new

-- ---- what is rebuilt

-- the record that was rebuilt
abbrev pub rebuilt_record : Rebuilt → RecordValue
rebuilt_record rebuilt = record {
  editions = map arc_value rebuilt.editions.items;
  journal = rebuilt.book;
  dockets = rebuilt.dockets.items;
  tallies = rebuilt.tallies.items;
  trackers = rebuilt.trackers.items;
  hits = [];
}

-- what was entered for the lanes
abbrev pub entries_rebuilt : Rebuilt → List (List DocketEntry)
entries_rebuilt rebuilt = map (λ docket. docket.entries) rebuilt.dockets.items

-- what the report tells, by the editions and the journal that were rebuilt
abbrev pub told_by_rebuilt : List ℕ → Rebuilt → ToldValue
told_by_rebuilt report rebuilt = told_value (map arc_value rebuilt.editions.items) rebuilt.book report

-- the lines of these lanes tell the sections of their dockets, from this lane on
abbrev pub AreSectionsTold : ToldValue → ℕ → List DocketValue → List ℕ → Type 0
AreSectionsTold told lane [] [] = Unit {0}
AreSectionsTold told lane [] (tracker ∷ trackers) = ⊥
AreSectionsTold told lane (docket ∷ dockets) [] = ⊥
AreSectionsTold told lane (docket ∷ dockets) (tracker ∷ trackers) =
    IsSomeAnd (lane_naming told lane) (λ one. (one.told.refused ≡ docket.refused) × (one.told.tracker ≡ tracker)) × AreSectionsTold told (lane + 1) dockets trackers

-- What was rebuilt is the record that the report tells of: it is legal for the script and what was captured, and the
-- answers are those of the script.
pub record IsRebuilt (config : Configuration) (steps : List Step) (report : List ℕ) (inputs : List (List Input)) (rebuilt : Rebuilt) : Type 0 where
  pub legal : IsLegal config (lines_outcome config steps).accepted inputs (rebuilt_record rebuilt)
  pub answered : rebuilt.answers.items ≡ (lines_outcome config steps).answers
  pub reported : rebuilt.report.items ≡ report
  -- the report tells its journal, its records and its sections so
  pub opened : IsOpened config steps report (map arc_value rebuilt.editions.items) rebuilt.book
  pub told : AreToldSo (told_by_rebuilt report rebuilt) 1 inputs (entries_rebuilt rebuilt)
  pub sections : AreSectionsTold (told_by_rebuilt report rebuilt) 1 rebuilt.dockets.items rebuilt.trackers.items
  -- no line of it is left over behind the records, and no lane lacks its line
  pub nothing_left : (number : ℕ) → IsWrongBehind (told_by_rebuilt report rebuilt) (lines_told report) (entries_rebuilt rebuilt) number → ⊥
