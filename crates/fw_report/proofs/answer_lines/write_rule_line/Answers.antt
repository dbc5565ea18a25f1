use Rattle.std.proofs.Common.{refl, ◌++◌, ap, sym, codes}
use Rattle.fw_base.proofs.Texts.{starts}
use Rattle.rule_text.proofs.WriteSteps.{goes, breaks_off, finishes}
use Rattle.rule_text.specs.Canonical.{rule_text}
use Rattle.fw_rule.specs.declared.rule.Rule.{Rule}
use Rattle.report_texts.specs.AnswerText.{rule_line}
use Rattle.fw_report.proofs.answer_lines.write_rule_line.Goals as goal

pub returns-in_err-write_canonical : goal.returns-in_err-write_canonical
unfolding rule_line
returns-in_err-write_canonical g c = breaks_off _ _ (codes "\n") (starts _ _) (ap (λ (r : Rule). rule_text r ++ codes "\n") (sym c.deref.ensures)) c.in_err-write_canonical.was c.write_canonical.ensures c.from_residual.ensures.1

pub returns : goal.returns
unfolding rule_line
returns g c = finishes _ (goes (codes "\n") (starts _ _) (ap (λ (r : Rule). rule_text r ++ codes "\n") (sym c.deref.ensures)) c.in_ok-write_canonical.was c.write_canonical.ensures) refl c.write_text.ensures
