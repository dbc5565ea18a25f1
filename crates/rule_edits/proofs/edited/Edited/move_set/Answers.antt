use Rattle.rule_edits.specs.Rules.{set_moved}
use Rattle.rule_edits.proofs.Kept.{move_kept, moved_last, moved_within}
use Rattle.rule_edits.proofs.edited.Edited.move_set.Goals as goal

pub invariant_of-self : goal.invariant_of-self
invariant_of-self c =
    rw c.in_ok-self-inside.ensures (move_kept _ (set_moved c.args.from c.args.to) (moved_last c.args.from c.args.to c.if-from-eq-LAST_SET.false) (moved_within c.args.from c.args.to c.requires) c.self.invariant)
