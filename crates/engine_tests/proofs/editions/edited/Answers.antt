use Rattle.std.proofs.Common.{sym, ◌∙◌}
use Rattle.rule_edits.proofs.Untouched.{untouched_rules_stay}
use Rattle.engine_tests.proofs.editions.edited.Goals as goal

pub returns-in_ok-apply : goal.returns-in_ok-apply
returns-in_ok-apply c = untouched_rules_stay c.args.config.now c.in_ok-apply.field-0 c.args.command.now (sym c.touches_rules.ensures ∙ c.if-not-touches_rules.true) c.in_ok-apply.ensures
