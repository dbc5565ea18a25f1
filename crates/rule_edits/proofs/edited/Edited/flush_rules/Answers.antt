use Rattle.std.proofs.Common.{refl}
use Rattle.std.specs.Prelude.{◌==◌}
use Rattle.fw_rule.specs.declared.rule.Rule.{Rule}
use Rattle.rule_edits.proofs.Kept.{filter_kept}
use Rattle.rule_edits.proofs.edited.Edited.flush_rules.Goals as goal

pub invariant_of-self : goal.invariant_of-self
invariant_of-self c = rw c.in_ok-self-inside.ensures (filter_kept _ (λ (rule : Rule). rule.set == 31) (λ k. refl) c.self.invariant)
