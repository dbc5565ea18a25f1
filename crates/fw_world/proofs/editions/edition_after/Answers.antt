use Rattle.std.proofs.Common.{sym, ◌∙◌}
use Rattle.rule_edits.proofs.Untouched.{untouched_rules_stay}
use Rattle.fw_world.proofs.editions.edition_after.Goals as goal

pub build_beside-requires : goal.build_beside-requires
build_beside-requires c = untouched_rules_stay c.args.last.now.config c.args.config c.args.command.now (sym c.touches_rules.ensures ∙ c.if-touches_rules.false) c.requires
