use Rattle.std.proofs.Common.{drop, flat_map, Global}
use Rattle.fw_base.proofs.Texts.{IsUnderWay}
use Rattle.std.specs.Arc.{arc_value}
use Rattle.std.specs.declared.sync.Arc.{Arc}
use Rattle.fw_rule.specs.declared.rule.Rule.{Rule}
use Rattle.report_texts.specs.RulesText.{counted_line}
use Rattle.fw_report.proofs.rule_lines.write_counted_lines.Given as goal

abbrev pub invariant-loop-rule : goal.invariant-loop-rule
invariant-loop-rule g l = IsUnderWay (g.K.Sink.state l.initial.out) (g.K.Sink.state l.out) (flat_map (λ (rule : Arc Rule Global). counted_line l.tallies (arc_value rule)) l.rules) (flat_map (λ (rule : Arc Rule Global). counted_line l.tallies (arc_value rule)) (drop l.rule-index l.rules))
