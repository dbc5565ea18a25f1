use Rattle.std.proofs.Common.{◌+◌, drop, flat_map}
use Rattle.rule_text.proofs.WriteSteps.{goes, breaks_off}
use Rattle.report_texts.proofs.Sections.{text_at}
use Rattle.report_texts.specs.AnswerText.{address_line}
use Rattle.fw_report.proofs.answer_lines.write_address_lines.Goals as goal

pub returns-in_err-write_address_line : goal.returns-in_err-write_address_line
returns-in_err-write_address_line g c =
    let next = text_at address_line c.args.entries.now c.loop-entry.entry-index c.entry-item.result c.loop-entry-test.true c.entry-item.is in
    breaks_off _ _ (flat_map address_line (drop (c.loop-entry.entry-index + 1) c.args.entries.now)) c.loop-entry.invariant next c.in_err-write_address_line.was c.write_address_line.ensures c.from_residual.ensures.1

pub loop-entry-preserved : goal.loop-entry-preserved
loop-entry-preserved g c =
    let next = text_at address_line c.args.entries.now c.loop-entry.entry-index c.entry-item.result c.loop-entry-test.true c.entry-item.is in
    goes (flat_map address_line (drop (c.loop-entry.entry-index + 1) c.args.entries.now)) c.loop-entry.invariant next c.in_ok-write_address_line.was c.write_address_line.ensures
