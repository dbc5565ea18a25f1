use Rattle.std.proofs.Common.{◌∙◌, sym}
use Rattle.run_audit.proofs.KnownRules.{placed_has}
use Rattle.run_audit.proofs.told_asks.rule_among.Goals as goal

pub returns-clause-ruled : goal.returns-clause-ruled
returns-clause-ruled c =
    c.config.ensures.lawful.identified c.args.id ∙ placed_has c.args.id c.in_ok-place.place c.args.edition.now.config.rules (sym c.in_ok-place.ensures)
