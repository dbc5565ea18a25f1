-- What is rebuilt where nothing is wrong behind the records.
use Rattle.std.specs.Prelude.{◌≡◌, ℕ, None, List, map}
use Rattle.std.specs.Arc.{arc_value}
use Rattle.report_texts.specs.declared.ends.LineAnswer.{LineAnswer}
use Rattle.state_journal.specs.Journal.{IsJournal}
use Rattle.run_audit.specs.Audit.{AreSectionsTold, entries_rebuilt}
use Rattle.run_audit.specs.Entering.{JudgingValue}
use Rattle.run_audit.specs.Judging.{ToldValue}
use Rattle.run_audit.specs.LeftOver.{first_behind}
use Rattle.run_audit.specs.ToldReport.{lines_told}
use Rattle.run_audit.specs.declared.rebuilt.Rebuilt.{Rebuilt}

-- No line of the report is wrong behind the records. What was rebuilt is what the report tells, with what was entered and
-- counted; the sections are those of the lanes' lines.
pub record IsMadeOf (told : ToldValue) (report : List ℕ) (answers : List LineAnswer) (judged : JudgingValue) (rebuilt : Rebuilt) : Type 0 where
  pub none : first_behind told (lines_told report) judged.dockets ≡ None
  pub reported : rebuilt.report.items ≡ report
  pub answered : rebuilt.answers.items ≡ answers
  pub editions : map arc_value rebuilt.editions.items ≡ told.editions
  pub journal : rebuilt.book ≡ told.journal
  pub lawful : IsJournal rebuilt.book
  pub entries : entries_rebuilt rebuilt ≡ judged.dockets
  pub tallies : rebuilt.tallies.items ≡ judged.tallies
  pub sections : AreSectionsTold told 1 rebuilt.dockets.items rebuilt.trackers.items
