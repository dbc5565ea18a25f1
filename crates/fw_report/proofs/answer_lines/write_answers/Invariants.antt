use Rattle.std.proofs.Common.{drop, flat_map}
use Rattle.fw_base.proofs.Texts.{IsUnderWay}
use Rattle.std.proofs.Common.{map}
use Rattle.std.specs.Arc.{arc_value}
use Rattle.report_texts.specs.AnswerText.{answer_text}
use Rattle.fw_report.proofs.answer_lines.write_answers.Given as goal

abbrev pub invariant-loop-answer : goal.invariant-loop-answer
invariant-loop-answer g l = IsUnderWay (g.K.Sink.state l.initial.out) (g.K.Sink.state l.out) (flat_map (answer_text (map arc_value l.editions)) l.answers) (flat_map (answer_text (map arc_value l.editions)) (drop l.answer-index l.answers))
