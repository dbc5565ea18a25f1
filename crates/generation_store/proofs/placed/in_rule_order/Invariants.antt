use Rattle.std.proofs.Common.{◌≡◌, ◌++◌, drop, map, vec_len}
use Rattle.std.specs.Arc.{arc_value}
use Rattle.generation_store.specs.Placing.{placed_from}
use Rattle.generation_store.proofs.placed.in_rule_order.Given as goal

abbrev pub invariant-loop-rule : goal.invariant-loop-rule
invariant-loop-rule l = (l.placed.items ++ placed_from l.rule-index (map arc_value (drop l.rule-index l.rules)) ≡ placed_from 0 (map arc_value l.rules)) × (vec_len l.placed ≡ l.rule-index)
