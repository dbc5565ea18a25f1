use Rattle.std.proofs.Common.{◌≡◌, map, take}
use Rattle.std.specs.Arc.{arc_value}
use Rattle.rule_chain.proofs.rule_list.share_rules.Given as goal

abbrev pub invariant-loop-rule : goal.invariant-loop-rule
invariant-loop-rule l = map arc_value l.shared.items ≡ map arc_value (take l.rule-index l.rules)
