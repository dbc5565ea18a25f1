use Rattle.std.proofs.Common.{◌+◌, drop, flat_map}
use Rattle.fw_base.proofs.Texts.{flat_map-drop}
use Rattle.rule_text.proofs.WriteSteps.{goes, breaks_off}
use Rattle.state_journal.specs.declared.entry.Entry.TheVariants.{Publish}
use Rattle.report_texts.specs.JournalText.{entry_line}
use Rattle.fw_report.proofs.journal_lines.write_entries.Goals as goal

pub returns-in_err-write_entry : goal.returns-in_err-write_entry
returns-in_err-write_entry g c =
    let next = flat_map-drop (entry_line c.args.names.now) c.args.entries.now c.loop-entry.entry-index (Publish 0) c.loop-entry-test.true in
    breaks_off _ _ (flat_map (entry_line c.args.names.now) (drop (c.loop-entry.entry-index + 1) c.args.entries.now)) c.loop-entry.invariant next c.in_err-write_entry.was c.write_entry.ensures c.from_residual.ensures.1

pub loop-entry-preserved : goal.loop-entry-preserved
loop-entry-preserved g c =
    let next = flat_map-drop (entry_line c.args.names.now) c.args.entries.now c.loop-entry.entry-index (Publish 0) c.loop-entry-test.true in
    goes (flat_map (entry_line c.args.names.now) (drop (c.loop-entry.entry-index + 1) c.args.entries.now)) c.loop-entry.invariant next c.in_ok-write_entry.was c.write_entry.ensures
