use Rattle.std.proofs.Common.{◌++◌, ℕ, List, ap, sym}
use Rattle.fw_base.proofs.Texts.{starts}
use Rattle.rule_text.proofs.WriteSteps.{goes, breaks_off, finishes}
use Rattle.state_texts.specs.StateTexts.{states_text}
use Rattle.fw_rule.specs.declared.rule.Rule.{Rule}
use Rattle.report_texts.specs.RulesText.{disabled_text, rules_text}
use Rattle.report_texts.specs.Report.{last_text}
use Rattle.fw_report.proofs.report.write_last.Goals as goal

pub returns-in_err-write_disabled : goal.returns-in_err-write_disabled
unfolding last_text
returns-in_err-write_disabled g c =
    let live : List ℕ = states_text c.args.config.now.names c.args.states.now.object in
    let rest : List ℕ = rules_text c.args.tallies.now c.args.config.now.rules ++ live in
    breaks_off _ _ rest (starts _ _) (ap (λ (n : ℕ). disabled_text n ++ rest) (sym c.disabled.ensures)) c.in_err-write_disabled.was c.write_disabled.ensures c.from_residual.ensures.1

pub returns-in_err-write_counted_rules : goal.returns-in_err-write_counted_rules
unfolding last_text
returns-in_err-write_counted_rules g c =
    let live : List ℕ = states_text c.args.config.now.names c.args.states.now.object in
    let rest : List ℕ = rules_text c.args.tallies.now c.args.config.now.rules ++ live in
    breaks_off _ _ live (goes rest (starts _ _) (ap (λ (n : ℕ). disabled_text n ++ rest) (sym c.disabled.ensures)) c.in_ok-write_disabled.was c.write_disabled.ensures) (ap (λ (rs : List Rule). rules_text c.args.tallies.now rs ++ live) (sym c.rules.ensures.value)) c.in_err-write_counted_rules.was c.write_counted_rules.ensures c.from_residual-in_err-write_counted_rules.ensures.1

pub returns : goal.returns
unfolding last_text
returns g c =
    let live : List ℕ = states_text c.args.config.now.names c.args.states.now.object in
    let rest : List ℕ = rules_text c.args.tallies.now c.args.config.now.rules ++ live in
    finishes _ (goes live (goes rest (starts _ _) (ap (λ (n : ℕ). disabled_text n ++ rest) (sym c.disabled.ensures)) c.in_ok-write_disabled.was c.write_disabled.ensures) (ap (λ (rs : List Rule). rules_text c.args.tallies.now rs ++ live) (sym c.rules.ensures.value)) c.in_ok-write_counted_rules.was c.write_counted_rules.ensures) (ap (λ (ns : List (List ℕ)). states_text ns c.args.states.now.object) (sym c.names.ensures.value)) c.write_live.ensures
