use Rattle.std.proofs.Common.{◌++◌, ℕ, List, ap, map}
use Rattle.fw_base.proofs.Texts.{starts}
use Rattle.rule_text.proofs.WriteSteps.{goes, breaks_off, finishes}
use Rattle.std.proofs.lemmas.List.{length-map}
use Rattle.std.specs.Arc.{arc_value}
use Rattle.std.specs.List.{flat_map}
use Rattle.report_texts.specs.AnswerText.{count_line}
use Rattle.report_texts.specs.RulesText.{rules_text, counted_line}
use Rattle.report_texts.proofs.Sections.{flat_map_map}
use Rattle.fw_report.proofs.rule_lines.write_counted_rules.Goals as goal

pub returns-in_err-write_count : goal.returns-in_err-write_count
unfolding rules_text
returns-in_err-write_count g c =
    let rest : List ℕ = flat_map (counted_line c.args.tallies.now) (map arc_value c.args.rules.now) in
    breaks_off _ _ rest (starts _ _) (ap (λ (n : ℕ). count_line n ++ rest) (length-map c.args.rules.now arc_value)) c.in_err-write_count.was c.write_count.ensures c.from_residual.ensures.1

pub returns : goal.returns
unfolding rules_text
returns g c =
    let rest : List ℕ = flat_map (counted_line c.args.tallies.now) (map arc_value c.args.rules.now) in
    finishes _ (goes rest (starts _ _) (ap (λ (n : ℕ). count_line n ++ rest) (length-map c.args.rules.now arc_value)) c.in_ok-write_count.was c.write_count.ensures) (flat_map_map (counted_line c.args.tallies.now) arc_value c.args.rules.now) c.write_counted_lines.ensures
