use Rattle.std.proofs.Common.{◌≡◌, None, not, sym, ◌∙◌}
use Rattle.fw_rule.specs.declared.rule.Rule.{Rule}
use Rattle.rule_edits.specs.Answers.{first_fault}
use Rattle.rule_edits.specs.Apply.{deletion_fault}
use Rattle.rule_edits.specs.Rules as lists
use Rattle.rule_edits.proofs.Kept.{filter_kept, named_last}
use Rattle.rule_edits.proofs.edited.Edited.delete_rules.Goals as goal

pub invariant_of-self : goal.invariant_of-self
invariant_of-self c =
    let is = rw c.rules.ensures at c.deletion_fault.ensures in
    let none : first_fault (deletion_fault c.self.inside.rules) c.args.numbers.now ≡ None = sym is ∙ c.in_default.is in
    rw c.in_ok-self-inside.ensures (filter_kept _ (λ (rule : Rule). not (lists.is_named c.args.numbers.now rule)) (named_last _ c.args.numbers.now none) c.self.invariant)
