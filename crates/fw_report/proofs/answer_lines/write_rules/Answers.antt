use Rattle.std.proofs.Common.{refl, ◌≡◌, ◌∙◌, ◌++◌, ℕ, List, ap, sym, length}
use Rattle.fw_base.proofs.Texts.{starts}
use Rattle.rule_text.proofs.WriteSteps.{goes, breaks_off, finishes}
use Rattle.std.proofs.lemmas.List.{length-map}
use Rattle.std.specs.Arc.{arc_value}
use Rattle.std.specs.List.{flat_map}
use Rattle.report_texts.specs.AnswerText.{rules_listing, rule_line, count_line}
use Rattle.report_texts.proofs.Sections.{flat_map_map}
use Rattle.fw_report.proofs.answer_lines.write_rules.Goals as goal

pub returns-in_err-write_text : goal.returns-in_err-write_text
unfolding rules_listing
returns-in_err-write_text g c =
    let rest : List ℕ = flat_map rule_line c.args.config.now.rules in
    let counted : length c.args.config.now.rules ≡ length c.rules-rules.result.now = ap length (sym c.rules-rules.ensures.value) ∙ length-map c.rules-rules.result.now arc_value in
    breaks_off _ _ _ (starts _ _) refl c.in_err-write_text.was c.write_text.ensures c.from_residual.ensures.1

pub returns-in_err-write_origin : goal.returns-in_err-write_origin
unfolding rules_listing
returns-in_err-write_origin g c =
    let rest : List ℕ = flat_map rule_line c.args.config.now.rules in
    let counted : length c.args.config.now.rules ≡ length c.rules-rules.result.now = ap length (sym c.rules-rules.ensures.value) ∙ length-map c.rules-rules.result.now arc_value in
    breaks_off _ _ (count_line (length c.args.config.now.rules) ++ rest) (goes _ (starts _ _) refl c.in_ok-write_text.was c.write_text.ensures) refl c.in_err-write_origin.was c.write_origin.ensures c.from_residual-in_err-write_origin.ensures.1

pub returns-in_err-write_count : goal.returns-in_err-write_count
unfolding rules_listing
returns-in_err-write_count g c =
    let rest : List ℕ = flat_map rule_line c.args.config.now.rules in
    let counted : length c.args.config.now.rules ≡ length c.rules-rules.result.now = ap length (sym c.rules-rules.ensures.value) ∙ length-map c.rules-rules.result.now arc_value in
    breaks_off _ _ rest (goes (count_line (length c.args.config.now.rules) ++ rest) (goes _ (starts _ _) refl c.in_ok-write_text.was c.write_text.ensures) refl c.in_ok-write_origin.was c.write_origin.ensures) (ap (λ (n : ℕ). count_line n ++ rest) counted) c.in_err-write_count.was c.write_count.ensures c.from_residual-in_err-write_count.ensures.1

pub returns : goal.returns
unfolding rules_listing
returns g c =
    let rest : List ℕ = flat_map rule_line c.args.config.now.rules in
    let counted : length c.args.config.now.rules ≡ length c.rules-rules.result.now = ap length (sym c.rules-rules.ensures.value) ∙ length-map c.rules-rules.result.now arc_value in
    finishes _ (goes rest (goes (count_line (length c.args.config.now.rules) ++ rest) (goes _ (starts _ _) refl c.in_ok-write_text.was c.write_text.ensures) refl c.in_ok-write_origin.was c.write_origin.ensures) (ap (λ (n : ℕ). count_line n ++ rest) counted) c.in_ok-write_count.was c.write_count.ensures) (ap (flat_map rule_line) (sym c.rules-rules.ensures.value) ∙ flat_map_map rule_line arc_value c.rules-rules.result.now) c.write_rule_lines.ensures
