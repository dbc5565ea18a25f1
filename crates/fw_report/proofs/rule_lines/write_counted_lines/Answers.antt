use Rattle.std.proofs.Common.{◌+◌, drop, flat_map, Global}
use Rattle.rule_text.proofs.WriteSteps.{goes, breaks_off}
use Rattle.report_texts.proofs.Sections.{text_at}
use Rattle.std.specs.Arc.{arc_value}
use Rattle.std.specs.declared.sync.Arc.{Arc}
use Rattle.fw_rule.specs.declared.rule.Rule.{Rule}
use Rattle.report_texts.specs.RulesText.{counted_line}
use Rattle.fw_report.proofs.rule_lines.write_counted_lines.Goals as goal

pub returns-in_err-write_counted : goal.returns-in_err-write_counted
returns-in_err-write_counted g c =
    let next = text_at (λ (rule : Arc Rule Global). counted_line c.args.tallies.now (arc_value rule)) c.args.rules.now c.loop-rule.rule-index c.rule-item.result c.loop-rule-test.true c.rule-item.is in
    breaks_off _ _ (flat_map (λ (rule : Arc Rule Global). counted_line c.args.tallies.now (arc_value rule)) (drop (c.loop-rule.rule-index + 1) c.args.rules.now)) c.loop-rule.invariant next c.in_err-write_counted.was c.write_counted.ensures c.from_residual.ensures.1

pub loop-rule-preserved : goal.loop-rule-preserved
loop-rule-preserved g c =
    let next = text_at (λ (rule : Arc Rule Global). counted_line c.args.tallies.now (arc_value rule)) c.args.rules.now c.loop-rule.rule-index c.rule-item.result c.loop-rule-test.true c.rule-item.is in
    goes (flat_map (λ (rule : Arc Rule Global). counted_line c.args.tallies.now (arc_value rule)) (drop (c.loop-rule.rule-index + 1) c.args.rules.now)) c.loop-rule.invariant next c.in_ok-write_counted.was c.write_counted.ensures
