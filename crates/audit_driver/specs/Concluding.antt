-- What an audit comes to, once its records were met or it was stopped.
use Rattle.std.specs.Prelude.{◌≡◌, ◌⊎◌, ℕ, ◌-◌, true, None, Some, List, ◌++◌, slice_get}
use Rattle.command_words.specs.Words.{CaptureNames}
use Rattle.fw_command.specs.declared.script.Step.{Step}
use Rattle.report_texts.specs.Report.{report_text}
use Rattle.report_texts.specs.declared.capture_end.CaptureEnd.{CaptureEnd}
use Rattle.report_texts.specs.declared.ends.Ends.{Ends}
use Rattle.report_texts.specs.declared.ends.LineAnswer.{LineAnswer}
use Rattle.fw_world.specs.Inputs.{Input}
use Rattle.capture_tracks.specs.Reported.{report_record}
use Rattle.rule_chain.specs.Configuration.{Configuration}
use Rattle.run_audit.specs.Audit.{AuditValue, IsAuditOf, IsFirstWrong, IsRebuilt, rebuilt_record}
use Rattle.run_audit.specs.Comparison.{line_of_first_other}
use Rattle.run_audit.specs.declared.audit_fault.AuditFault.TheVariants.{Wrong}
use Rattle.run_audit.specs.declared.rebuilt.Rebuilt.{Rebuilt}
use Rattle.audit_driver.specs.declared.audit_result.AuditResult.{AuditResult}
use Rattle.audit_driver.specs.declared.audit_result.AuditResult.TheVariants.{Unread, Unready, TooLong, No, Yes}

-- the text of what was rebuilt, with these ends
abbrev pub rebuilt_text : Rebuilt → Ends → List ℕ
rebuilt_text rebuilt ends = report_text (report_record (rebuilt_record rebuilt)) ends.captures ends.answers true

-- the report is that text, or this is the first line that differs
abbrev pub ComparesWith : Rebuilt → Ends → AuditResult → Type 0
ComparesWith rebuilt ends (Unread name) = ⊥
ComparesWith rebuilt ends (Unready error) = ⊥
ComparesWith rebuilt ends TooLong = ⊥
ComparesWith rebuilt ends (No line) = line_of_first_other 1 (rebuilt_text rebuilt ends) rebuilt.report.items ≡ Some line
ComparesWith rebuilt ends Yes = rebuilt.report.items ≡ rebuilt_text rebuilt ends

-- what was rebuilt behind these records is compared with the report
pub record ComparesRebuilt (config : Configuration) (steps : List Step) (report : List ℕ) (inputs : List (List Input)) (first : List LineAnswer) (ends : List CaptureEnd) (result : AuditResult) : Type 0 where
  pub rebuilt : Rebuilt
  pub is : IsRebuilt config steps report inputs rebuilt
  pub compares : ComparesWith rebuilt (record { captures = ends; answers = first ++ rebuilt.answers.items }) result

-- a line is the first that is wrong, or what was rebuilt is compared
abbrev pub ConcludesFor : Configuration → List Step → List ℕ → List (List Input) → List LineAnswer → List CaptureEnd → AuditResult → Type 0
ConcludesFor config steps report inputs first ends (Unread name) = ⊥
ConcludesFor config steps report inputs first ends (Unready error) = ⊥
ConcludesFor config steps report inputs first ends TooLong = ⊥
ConcludesFor config steps report inputs first ends (No line) =
    IsFirstWrong config steps report inputs line ⊎ ComparesRebuilt config steps report inputs first ends (No line)
ConcludesFor config steps report inputs first ends Yes = ComparesRebuilt config steps report inputs first ends Yes

-- It is the audit of some report beside some script and some records.
pub record IsAnAudit (audit : AuditValue) : Type 0 where
  pub config : Configuration
  pub steps : List Step
  pub report : List ℕ
  pub inputs : List (List Input)
  pub is : IsAuditOf config steps report inputs audit

-- whatever the audit stands for
abbrev pub Concludes : List LineAnswer → AuditValue → List CaptureEnd → AuditResult → Type 0
Concludes first audit ends result = (config : Configuration) (steps : List Step) (report : List ℕ) (inputs : List (List Input))
    → IsAuditOf config steps report inputs audit → ConcludesFor config steps report inputs first ends result

-- the audit's fault names this line; or it has none, and the last of so many captures is named
abbrev pub IsStoppedSo : AuditValue → ℕ → List CaptureNames → AuditResult → Type 0
IsStoppedSo audit captures names (Unread name) = (audit.fault ≡ None) × (capture : CaptureNames) × (slice_get names (captures - 1) ≡ Some capture) × (name ≡ capture.name)
IsStoppedSo audit captures names (Unready error) = ⊥
IsStoppedSo audit captures names TooLong = ⊥
IsStoppedSo audit captures names (No line) = audit.fault ≡ Some (Wrong line)
IsStoppedSo audit captures names Yes = ⊥
