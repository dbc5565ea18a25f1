use Rattle.std.proofs.Common.{◌+◌, drop, flat_map, Global}
use Rattle.rule_text.proofs.WriteSteps.{goes, breaks_off}
use Rattle.report_texts.proofs.Sections.{text_at}
use Rattle.std.specs.Arc.{arc_value}
use Rattle.std.specs.declared.sync.Arc.{Arc}
use Rattle.fw_rule.specs.declared.rule.Rule.{Rule}
use Rattle.report_texts.specs.AnswerText.{rule_line}
use Rattle.fw_report.proofs.answer_lines.write_rule_lines.Goals as goal

pub returns-in_err-write_rule_line : goal.returns-in_err-write_rule_line
returns-in_err-write_rule_line g c =
    let next = text_at (λ (rule : Arc Rule Global). rule_line (arc_value rule)) c.args.rules.now c.loop-rule.rule-index c.rule-item.result c.loop-rule-test.true c.rule-item.is in
    breaks_off _ _ (flat_map (λ (rule : Arc Rule Global). rule_line (arc_value rule)) (drop (c.loop-rule.rule-index + 1) c.args.rules.now)) c.loop-rule.invariant next c.in_err-write_rule_line.was c.write_rule_line.ensures c.from_residual.ensures.1

pub loop-rule-preserved : goal.loop-rule-preserved
loop-rule-preserved g c =
    let next = text_at (λ (rule : Arc Rule Global). rule_line (arc_value rule)) c.args.rules.now c.loop-rule.rule-index c.rule-item.result c.loop-rule-test.true c.rule-item.is in
    goes (flat_map (λ (rule : Arc Rule Global). rule_line (arc_value rule)) (drop (c.loop-rule.rule-index + 1) c.args.rules.now)) c.loop-rule.invariant next c.in_ok-write_rule_line.was c.write_rule_line.ensures
