use Rattle.std.proofs.Common.{◌+◌, drop, flat_map}
use Rattle.fw_base.proofs.Texts.{flat_map-drop}
use Rattle.rule_text.proofs.WriteSteps.{goes, breaks_off}
use Rattle.report_texts.specs.AnswerText.{number_line}
use Rattle.fw_report.proofs.answer_lines.write_number_lines.Goals as goal

pub returns-in_err-write_number_line : goal.returns-in_err-write_number_line
returns-in_err-write_number_line g c =
    let next = flat_map-drop number_line c.args.entries.now c.loop-entry.entry-index (0, 0) c.loop-entry-test.true in
    breaks_off _ _ (flat_map number_line (drop (c.loop-entry.entry-index + 1) c.args.entries.now)) c.loop-entry.invariant next c.in_err-write_number_line.was c.write_number_line.ensures c.from_residual.ensures.1

pub loop-entry-preserved : goal.loop-entry-preserved
loop-entry-preserved g c =
    let next = flat_map-drop number_line c.args.entries.now c.loop-entry.entry-index (0, 0) c.loop-entry-test.true in
    goes (flat_map number_line (drop (c.loop-entry.entry-index + 1) c.args.entries.now)) c.loop-entry.invariant next c.in_ok-write_number_line.was c.write_number_line.ensures
