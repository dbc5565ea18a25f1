use Rattle.std.specs.Arc.{arc_value}
use Rattle.rule_edits.proofs.FlowNames.{names_made}
use Rattle.rule_edits.proofs.Kept.{names_kept}
use Rattle.rule_edits.proofs.edited.Edited.with_name_and_tables.Goals as goal

pub invariant_of-self : goal.invariant_of-self
invariant_of-self c =
    let (kept, named) = names_made (arc_value c.self.inside.names).items _ _ c.self.invariant.names c.in_ok-self-inside.ensures.ok in
    names_kept _ _ _ kept c.self.invariant

pub returns-clause-named : goal.returns-clause-named
returns-clause-named c = (names_made (arc_value c.self.inside.names).items _ _ c.self.invariant.names c.in_ok-self-inside.ensures.ok).1
