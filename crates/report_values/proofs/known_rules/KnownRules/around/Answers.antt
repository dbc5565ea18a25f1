use Rattle.std.proofs.Common.{ℕ, sym, ◌∙◌, subst, length}
use Rattle.report_values.specs.KnownPlaces.{IsStretchOf}
use Rattle.report_values.proofs.KnownPlaces.{none_told, stretch_told}
use Rattle.report_values.proofs.known_rules.KnownRules.around.Goals as goal

pub returns-in-Some : goal.returns-in-Some
returns-in-Some c =
    let rules = c.self.inside.rules.now in
    let pair : ℕ × ℕ = (c.args.edition, c.args.number) in
    let found = subst (IsStretchOf rules (length rules) pair) (sym c.stretch_at.ensures ∙ c.in-Some.is) (c.self.invariant pair) in
    rw (← c.self.view_is) (stretch_told rules pair c.in-Some.stretch found)

pub returns-in-None : goal.returns-in-None
returns-in-None c =
    let rules = c.self.inside.rules.now in
    let pair : ℕ × ℕ = (c.args.edition, c.args.number) in
    let none = subst (IsStretchOf rules (length rules) pair) (sym c.stretch_at.ensures ∙ c.in-None.is) (c.self.invariant pair) in
    rw (← c.self.view_is) (sym (none_told rules pair none))
