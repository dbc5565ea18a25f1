use Rattle.std.proofs.Common.{◌-◌}
use Rattle.fw_base.proofs.Texts.{IsUnderWay}
use Rattle.report_texts.specs.RulesText.{sets_text}
use Rattle.fw_report.proofs.rule_lines.write_sets.Given as goal

abbrev pub invariant-loop-set : goal.invariant-loop-set
invariant-loop-set g l = IsUnderWay (g.K.Sink.state l.initial.out) (g.K.Sink.state l.out) (sets_text l.mask 32 0) (sets_text l.mask (32 - l.set) l.set)
