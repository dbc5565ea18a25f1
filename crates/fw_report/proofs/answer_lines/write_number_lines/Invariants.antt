use Rattle.std.proofs.Common.{drop, flat_map}
use Rattle.fw_base.proofs.Texts.{IsUnderWay}
use Rattle.report_texts.specs.AnswerText.{number_line}
use Rattle.fw_report.proofs.answer_lines.write_number_lines.Given as goal

abbrev pub invariant-loop-entry : goal.invariant-loop-entry
invariant-loop-entry g l = IsUnderWay (g.K.Sink.state l.initial.out) (g.K.Sink.state l.out) (flat_map number_line l.entries) (flat_map number_line (drop l.entry-index l.entries))
