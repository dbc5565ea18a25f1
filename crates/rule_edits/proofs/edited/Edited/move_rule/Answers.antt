use Rattle.rule_edits.specs.Rules.{set_of_number}
use Rattle.rule_edits.proofs.Kept.{move_kept, number_last, number_within}
use Rattle.rule_edits.proofs.edited.Edited.move_rule.Goals as goal

pub invariant_of-self : goal.invariant_of-self
invariant_of-self c =
    rw c.in_ok-self-inside.ensures (move_kept _ (set_of_number c.args.number c.args.to) (number_last c.args.number c.args.to c.if-number-eq-LAST_NUMBER.false) (number_within c.args.number c.args.to c.requires) c.self.invariant)
