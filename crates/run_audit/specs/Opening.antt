-- What an audit finds before it looks at a record: the form of each line, and then the journal.
use Rattle.std.specs.Prelude.{ℕ, Option, List}
use Rattle.generation_store.specs.Published.{Published}
use Rattle.report_reading.specs.Lines.{lines_with_ends}
use Rattle.fw_base.specs.Chain.{or_else}
use Rattle.run_audit.specs.Forms.{first_unformed}
use Rattle.run_audit.specs.JournalTold.{no_journal, replay, wrong_line}
use Rattle.run_audit.specs.ToldReport.{lines_told}

-- the first line that has the form of none
abbrev pub unformed_line : List ℕ → Option ℕ
unformed_line report = first_unformed 1 (lines_with_ends report)

-- the first line with which the journal isn't that of these editions
abbrev pub unlawful_line : List Published → List ℕ → Option ℕ
unlawful_line editions report = wrong_line (replay editions 1 (lines_told report) no_journal)

-- the first line that is wrong before a record is looked at: the form of all lines comes before the journal
abbrev pub opening_fault : List Published → List ℕ → Option ℕ
opening_fault editions report = or_else (unformed_line report) (unlawful_line editions report)
