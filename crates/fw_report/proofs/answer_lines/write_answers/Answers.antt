use Rattle.std.proofs.Common.{◌+◌, drop, flat_map}
use Rattle.rule_text.proofs.WriteSteps.{goes, breaks_off}
use Rattle.report_texts.proofs.Sections.{text_at}
use Rattle.std.proofs.Common.{map}
use Rattle.std.specs.Arc.{arc_value}
use Rattle.report_texts.specs.AnswerText.{answer_text}
use Rattle.fw_report.proofs.answer_lines.write_answers.Goals as goal

pub returns-in_err-write_answer : goal.returns-in_err-write_answer
returns-in_err-write_answer g c =
    let next = text_at (answer_text (map arc_value c.args.editions.now)) c.args.answers.now c.loop-answer.answer-index c.answer-item.result c.loop-answer-test.true c.answer-item.is in
    breaks_off _ _ (flat_map (answer_text (map arc_value c.args.editions.now)) (drop (c.loop-answer.answer-index + 1) c.args.answers.now)) c.loop-answer.invariant next c.in_err-write_answer.was c.write_answer.ensures c.from_residual.ensures.1

pub loop-answer-preserved : goal.loop-answer-preserved
loop-answer-preserved g c =
    let next = text_at (answer_text (map arc_value c.args.editions.now)) c.args.answers.now c.loop-answer.answer-index c.answer-item.result c.loop-answer-test.true c.answer-item.is in
    goes (flat_map (answer_text (map arc_value c.args.editions.now)) (drop (c.loop-answer.answer-index + 1) c.args.answers.now)) c.loop-answer.invariant next c.in_ok-write_answer.was c.write_answer.ensures
