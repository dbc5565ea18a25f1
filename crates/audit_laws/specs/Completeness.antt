-- What an audit says of the report of a legal record: that it passes.
use Rattle.std.specs.Prelude.{◌≡◌, ⊤, ℕ, Some, None, List, [], ◌∷◌, ◌++◌}
use Rattle.capture_tracks.specs.Commands.{lines_outcome}
use Rattle.fw_command.specs.declared.script.Step.{Step}
use Rattle.report_texts.specs.declared.capture_end.CaptureEnd.{CaptureEnd}
use Rattle.report_texts.specs.declared.ends.LineAnswer.{LineAnswer}
use Rattle.fw_world.specs.Inputs.{Input}
use Rattle.fw_world.specs.Legal.{IsLegal}
use Rattle.fw_world.specs.RecordValue.{RecordValue}
use Rattle.rule_chain.specs.Configuration.{Configuration}
use Rattle.run_audit.specs.Audit.{AuditValue, FailsAtInput, FailsAtOpening, IsAuditOf, IsFirstWrong, IsRebuilt, rebuilt_record, told_value}
use Rattle.run_audit.specs.JudgingValues.{entries_of_each}
use Rattle.run_audit.specs.JournalTold.{Lawful, no_journal, replay}
use Rattle.run_audit.specs.Judging.{AreToldSo}
use Rattle.run_audit.specs.Opening.{opening_fault}
use Rattle.run_audit.specs.OtherLines.{IsWrongBehind}
use Rattle.run_audit.specs.ToldReport.{lines_told}
use Rattle.run_audit.specs.declared.audit_fault.AuditFault.TheVariants.{Wrong}
use Rattle.run_audit.specs.declared.rebuilt.Rebuilt.{Rebuilt}
use Rattle.state_journal.specs.Journal.{Journal}
use Rattle.audit_laws.specs.Printable.{IsPrintableRecord, report_of}

-- The record is legal for a first configuration, for steps behind `live` and for what was captured, and its lines are in
-- their ranges.
pub record IsReported (config : Configuration) (steps : List Step) (inputs : List (List Input)) (r : RecordValue) (ends : List CaptureEnd) (answers : List LineAnswer) : Type 0 where
  pub legal : IsLegal config (lines_outcome config steps).accepted inputs r
  pub printable : IsPrintableRecord inputs r ends answers

-- The lines of a report tell a journal of the record's entries and states.
pub record IsToldAgain (r : RecordValue) (report : List ℕ) (journal : Journal) : Type 0 where
  pub replayed : replay r.editions 1 (lines_told report) no_journal ≡ Lawful journal
  pub entries : journal.entries ≡ r.journal.entries
  pub object : journal.object ≡ r.journal.object

-- a law of the printed report of each legal record
abbrev pub OfEachReport : ((inputs : List (List Input)) (r : RecordValue) (report : List ℕ) → Type 0) → Type 0
OfEachReport P = (config : Configuration) (steps : List Step) (inputs : List (List Input)) (r : RecordValue) (ends : List CaptureEnd) (answers : List LineAnswer)
    → IsReported config steps inputs r ends answers → P inputs r (report_of r ends answers)

-- a law of it and of the journal that its lines tell
abbrev pub OfEachToldReport : ((inputs : List (List Input)) (r : RecordValue) (report : List ℕ) (journal : Journal) → Type 0) → Type 0
OfEachToldReport P = OfEachReport (λ inputs r report. (journal : Journal) → IsToldAgain r report journal → P inputs r report journal)

-- Each of its lines has its form, and the lines of the journal tell the record's own.
abbrev pub ReportsOpen : Type 0
ReportsOpen = OfEachReport (λ inputs r report. (opening_fault r.editions report ≡ None) × (journal : Journal) × IsToldAgain r report journal)

-- Each record is as the report tells it.
abbrev pub ReportsTellRecords : Type 0
ReportsTellRecords = OfEachToldReport (λ inputs r report journal. AreToldSo (told_value r.editions journal report) 1 inputs (entries_of_each r.dockets))

-- No line is left over, and none lacks.
abbrev pub ReportsLeaveNothing : Type 0
ReportsLeaveNothing = OfEachToldReport (λ inputs r report journal. (number : ℕ)
    → IsWrongBehind (told_value r.editions journal report) (lines_told report) (entries_of_each r.dockets) number → ⊥)

-- Of each capture these are records from its first on.
abbrev pub AreSoFar : List (List Input) → List (List Input) → Type 0
AreSoFar [] [] = ⊤
AreSoFar [] (all ∷ inputs) = ⊥
AreSoFar (own ∷ met) [] = ⊥
AreSoFar (own ∷ met) (all ∷ inputs) = ((rest : List Input) × (all ≡ own ++ rest)) × AreSoFar met inputs

-- No audit of the report beside its script comes to a fault that is about the report: not at its opening, not at a record,
-- however many of each capture were met, and not behind all of them.
pub record IsFaultless (config : Configuration) (steps : List Step) (inputs : List (List Input)) (report : List ℕ) : Type 0 where
  pub opening : (line : ℕ) → FailsAtOpening config steps report line → ⊥
  pub record_of : (met : List (List Input)) (line : ℕ) → AreSoFar met inputs → FailsAtInput config steps report met line → ⊥
  -- an audit that met them stands, but for want of memory
  pub audits : (met : List (List Input)) (audit : AuditValue) (line : ℕ) → AreSoFar met inputs → IsAuditOf config steps report met audit → audit.fault ≡ Some (Wrong line) → ⊥
  pub whole : (line : ℕ) → IsFirstWrong config steps report inputs line → ⊥

-- So it is with the report of each legal record.
abbrev pub ReportsAreFaultless : Type 0
ReportsAreFaultless = (config : Configuration) (steps : List Step) (inputs : List (List Input)) (r : RecordValue) (ends : List CaptureEnd) (answers : List LineAnswer)
    → IsReported config steps inputs r ends answers → IsFaultless config steps inputs (report_of r ends answers)

-- Whatever record is rebuilt from the report has that report again.
abbrev pub RebuiltRecordsPrintAlike : Type 0
RebuiltRecordsPrintAlike = (config : Configuration) (steps : List Step) (inputs : List (List Input)) (r : RecordValue) (ends : List CaptureEnd) (answers : List LineAnswer)
    → IsReported config steps inputs r ends answers → (rebuilt : Rebuilt) → IsRebuilt config steps (report_of r ends answers) inputs rebuilt
    → report_of (rebuilt_record rebuilt) ends answers ≡ report_of r ends answers
