use Rattle.std.proofs.Common.{◌++◌, ℕ, List, ap, sym, map, length}
use Rattle.fw_base.proofs.Texts.{starts}
use Rattle.rule_text.proofs.WriteSteps.{goes, breaks_off, finishes}
use Rattle.std.proofs.lemmas.List.{length-map}
use Rattle.std.specs.Arc.{arc_value}
use Rattle.report_texts.specs.AnswerText.{answers_text}
use Rattle.report_texts.specs.DocketText.{captures_text}
use Rattle.report_texts.specs.RulesText.{editions_line}
use Rattle.report_texts.specs.Report.{start_text}
use Rattle.report_texts.specs.declared.capture_end.CaptureEnd.{CaptureEnd}
use Rattle.report_texts.specs.declared.ends.LineAnswer.{LineAnswer}
use Rattle.fw_report.proofs.report.write_start.Goals as goal

pub returns-in_err-write_captures : goal.returns-in_err-write_captures
unfolding start_text
returns-in_err-write_captures g c =
    let rest : List ℕ = answers_text (map arc_value c.args.editions.now) c.args.ends.now.answers ++ editions_line (length (map arc_value c.args.editions.now)) in
    breaks_off _ _ rest (starts _ _) (ap (λ (es : List CaptureEnd). captures_text 1 c.args.dockets.now es ++ rest) (sym c.as_slice.ensures)) c.in_err-write_captures.was c.write_captures.ensures c.from_residual.ensures.1

pub returns-in_err-write_answers : goal.returns-in_err-write_answers
unfolding start_text
returns-in_err-write_answers g c =
    let rest : List ℕ = answers_text (map arc_value c.args.editions.now) c.args.ends.now.answers ++ editions_line (length (map arc_value c.args.editions.now)) in
    breaks_off _ _ (editions_line (length (map arc_value c.args.editions.now))) (goes rest (starts _ _) (ap (λ (es : List CaptureEnd). captures_text 1 c.args.dockets.now es ++ rest) (sym c.as_slice.ensures)) c.in_ok-write_captures.was c.write_captures.ensures) (ap (λ (lines : List LineAnswer). answers_text (map arc_value c.args.editions.now) lines ++ editions_line (length (map arc_value c.args.editions.now))) (sym c.as_slice-2.ensures)) c.in_err-write_answers.was c.write_answers.ensures c.from_residual-in_err-write_answers.ensures.1

pub returns : goal.returns
unfolding start_text
returns g c =
    let rest : List ℕ = answers_text (map arc_value c.args.editions.now) c.args.ends.now.answers ++ editions_line (length (map arc_value c.args.editions.now)) in
    finishes _ (goes (editions_line (length (map arc_value c.args.editions.now))) (goes rest (starts _ _) (ap (λ (es : List CaptureEnd). captures_text 1 c.args.dockets.now es ++ rest) (sym c.as_slice.ensures)) c.in_ok-write_captures.was c.write_captures.ensures) (ap (λ (lines : List LineAnswer). answers_text (map arc_value c.args.editions.now) lines ++ editions_line (length (map arc_value c.args.editions.now))) (sym c.as_slice-2.ensures)) c.in_ok-write_answers.was c.write_answers.ensures) (ap editions_line (length-map c.args.editions.now arc_value)) c.write_editions.ensures
