use Rattle.std.proofs.Common.{sym, ◌∙◌}
use Rattle.std.proofs.lemmas.List.Folds.{list_all-map}
use Rattle.std.specs.Arc.{arc_value}
use Rattle.fw_rule.specs.declared.rule.Rule.{Rule}
use Rattle.rule_gates.specs.Cacheable.{is_final}
use Rattle.rule_gates.proofs.cacheable.is_cacheable.Goals as goal

pub returns : goal.returns
returns c = c.are_final.ensures ∙ sym (list_all-map (λ (rule : Rule). is_final rule.action) arc_value c.args.rules.now)
