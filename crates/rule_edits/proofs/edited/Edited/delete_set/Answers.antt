use Rattle.std.proofs.Common.{not, ◌||◌, true, refl}
use Rattle.std.specs.Prelude.{◌==◌}
use Rattle.std.proofs.lemmas.Bool.{or_right}
use Rattle.fw_rule.specs.declared.rule.Rule.{Rule}
use Rattle.rule_edits.proofs.Kept.{filter_kept}
use Rattle.rule_edits.proofs.edited.Edited.delete_set.Goals as goal

pub invariant_of-self : goal.invariant_of-self
invariant_of-self c =
    rw c.in_ok-self-inside.ensures (filter_kept _ (λ (rule : Rule). not (rule.set == c.args.set) || rule.number == 65535) (λ k. or_right (not (31 == c.args.set)) true refl) c.self.invariant)
