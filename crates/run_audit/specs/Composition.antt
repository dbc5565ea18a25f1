-- What makes a record that a report tells of legal: the second pass says that its journal is lawful, the third that its
-- records, asks and sections are as the report tells them.
use Rattle.std.specs.Prelude.{◌≡◌, ℕ, ⊤, ◌≤◌, IsSome, Some, None, List, [], ◌∷◌, length}
use Rattle.std.specs.List.{AllByRecursion}
use Rattle.eval_engine.specs.Dockets.{DocketValue}
use Rattle.eval_engine.specs.declared.docket_entry.DocketEntry.{DocketEntry}
use Rattle.fw_rule.specs.declared.command.Command.{Command}
use Rattle.fw_world.specs.Editions.{AreEditions}
use Rattle.fw_world.specs.Inputs.{Input}
use Rattle.fw_world.specs.Legal.{IsLegal}
use Rattle.fw_world.specs.Publications.{IsPublished}
use Rattle.fw_world.specs.RecordValue.{RecordValue}
use Rattle.fw_world.specs.Sections.{AreSections}
use Rattle.report_reading.specs.Readings.{LineValue}
use Rattle.rule_chain.specs.Configuration.{Configuration}
use Rattle.state_journal.specs.Journal.{IsJournal}
use Rattle.state_journal.specs.declared.entry.Entry.{Entry}
use Rattle.state_journal.specs.declared.entry.Entry.TheVariants.{Publish, Ask}
use Rattle.run_audit.specs.Audit.{AreTalliesOf}
use Rattle.run_audit.specs.Judging.{ToldValue, AreToldSo}
use Rattle.run_audit.specs.JudgingValues.{entries_of_each}
use Rattle.run_audit.specs.LeftOver.{first_behind}
use Rattle.run_audit.specs.OtherLines.{judgement_at, IsWrongBehind, IsFirstBehind}

-- an ask of the journal is of a judged record
abbrev pub IsOfJudgedRecord : List (List DocketEntry) → Entry → Type 0
IsOfJudgedRecord dockets (Publish number) = ⊤
IsOfJudgedRecord dockets (Ask lane op reply at) = (1 ≤ lane) × (1 ≤ at) × IsSome (judgement_at dockets lane at)

-- the lanes' sections are those of their dockets
abbrev pub HaveSections : ℕ → List DocketValue → List ℕ → Type 0
HaveSections editions [] [] = ⊤
HaveSections editions [] (tracker ∷ trackers) = ⊥
HaveSections editions (docket ∷ dockets) [] = ⊥
HaveSections editions (docket ∷ dockets) (tracker ∷ trackers) = AreSections editions docket tracker × HaveSections editions dockets trackers

-- Passes two and three make a record legal: the editions are those of the commands, the journal is lawful and publishes
-- them, the records and sections are as they are told, and each ask is of a judged record.
abbrev pub ToldRecordsAreLegal : Type 0
ToldRecordsAreLegal = (first : Configuration) (commands : List Command) (inputs : List (List Input)) (told : ToldValue) (r : RecordValue) → r.editions ≡ told.editions → r.journal ≡ told.journal
    → AreEditions first commands r.editions → IsJournal r.journal → IsPublished r.editions r.journal → AreToldSo told 1 inputs (entries_of_each r.dockets)
    → AreTalliesOf told 1 inputs (entries_of_each r.dockets) r.tallies → AllByRecursion (IsOfJudgedRecord (entries_of_each r.dockets)) told.journal.entries
    → HaveSections (length r.editions) r.dockets r.trackers → IsLegal first commands inputs r

-- The line that the tests of the lines behind the records find is the first that is wrong.
abbrev pub TestsFindTheFirst : Type 0
TestsFindTheFirst = (told : ToldValue) (dockets : List (List DocketEntry)) (values : List LineValue) (line : ℕ) → length values ≡ told.lines
    → first_behind told values dockets ≡ Some line → IsFirstBehind told values dockets line

-- Where they find none, no line is.
abbrev pub TestsFindAll : Type 0
TestsFindAll = (told : ToldValue) (dockets : List (List DocketEntry)) (values : List LineValue) → first_behind told values dockets ≡ None
    → (number : ℕ) → IsWrongBehind told values dockets number → ⊥
