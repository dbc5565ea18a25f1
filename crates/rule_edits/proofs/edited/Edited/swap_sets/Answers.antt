use Rattle.rule_edits.specs.Rules.{set_swapped}
use Rattle.rule_edits.proofs.Kept.{move_kept, swapped_last, swapped_within}
use Rattle.rule_edits.proofs.edited.Edited.swap_sets.Goals as goal

pub invariant_of-self : goal.invariant_of-self
invariant_of-self c =
    rw c.in_ok-self-inside.ensures (move_kept _ (set_swapped c.args.first c.args.second) (swapped_last c.args.first c.args.second c.if-first-eq-LAST_SET.false c.if-second-eq-LAST_SET.false)
    (swapped_within c.args.first c.args.second c.requires.first c.requires.second) c.self.invariant)
