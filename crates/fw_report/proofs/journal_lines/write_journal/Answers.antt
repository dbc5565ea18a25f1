use Rattle.std.proofs.Common.{refl}
use Rattle.fw_base.proofs.Texts.{starts}
use Rattle.rule_text.proofs.WriteSteps.{goes, breaks_off, finishes}
use Rattle.report_texts.specs.JournalText.{journal_text}
use Rattle.fw_report.proofs.journal_lines.write_journal.Goals as goal

pub returns-in_err-write_heading : goal.returns-in_err-write_heading
unfolding journal_text
returns-in_err-write_heading g c = breaks_off _ _ _ (starts _ _) refl c.in_err-write_heading.was c.write_heading.ensures c.from_residual.ensures.1

pub returns-in_err-write_entries : goal.returns-in_err-write_entries
unfolding journal_text
returns-in_err-write_entries g c = breaks_off _ _ _ (goes _ (starts _ _) refl c.in_ok-write_heading.was c.write_heading.ensures) refl c.in_err-write_entries.was c.write_entries.ensures c.from_residual-in_err-write_entries.ensures.1

pub returns : goal.returns
unfolding journal_text
returns g c = finishes _ (goes _ (goes _ (starts _ _) refl c.in_ok-write_heading.was c.write_heading.ensures) refl c.in_ok-write_entries.was c.write_entries.ensures) refl c.write_lanes.ensures
