use Rattle.std.proofs.Common.{refl, ◌++◌, ap, sym, codes}
use Rattle.fw_base.proofs.Texts.{starts}
use Rattle.rule_text.proofs.WriteSteps.{goes, breaks_off, finishes}
use Rattle.std.specs.Arc.{arc_value}
use Rattle.rule_text.specs.Canonical.{rest_text}
use Rattle.fw_rule.specs.declared.rule.Rule.{Rule}
use Rattle.report_texts.specs.RulesText.{counts_text, counted_line}
use Rattle.fw_report.proofs.rule_lines.write_counted.Goals as goal

pub returns-in_err-write_counts : goal.returns-in_err-write_counts
unfolding counted_line
returns-in_err-write_counts g c = breaks_off _ _ (rest_text (arc_value c.args.rule.now) ++ codes "\n") (starts _ _) (ap (λ (r : Rule). counts_text c.args.tallies.now r ++ (rest_text (arc_value c.args.rule.now) ++ codes "\n")) (sym c.deref.ensures)) c.in_err-write_counts.was c.write_counts.ensures c.from_residual.ensures.1

pub returns-in_err-write_rest : goal.returns-in_err-write_rest
unfolding counted_line
returns-in_err-write_rest g c = breaks_off _ _ (codes "\n") (goes (rest_text (arc_value c.args.rule.now) ++ codes "\n") (starts _ _) (ap (λ (r : Rule). counts_text c.args.tallies.now r ++ (rest_text (arc_value c.args.rule.now) ++ codes "\n")) (sym c.deref.ensures)) c.in_ok-write_counts.was c.write_counts.ensures) (ap (λ (r : Rule). rest_text r ++ codes "\n") (sym c.deref-2.ensures)) c.in_err-write_rest.was c.write_rest.ensures c.from_residual-in_err-write_rest.ensures.1

pub returns : goal.returns
unfolding counted_line
returns g c = finishes _ (goes (codes "\n") (goes (rest_text (arc_value c.args.rule.now) ++ codes "\n") (starts _ _) (ap (λ (r : Rule). counts_text c.args.tallies.now r ++ (rest_text (arc_value c.args.rule.now) ++ codes "\n")) (sym c.deref.ensures)) c.in_ok-write_counts.was c.write_counts.ensures) (ap (λ (r : Rule). rest_text r ++ codes "\n") (sym c.deref-2.ensures)) c.in_ok-write_rest.was c.write_rest.ensures) refl c.write_text.ensures
