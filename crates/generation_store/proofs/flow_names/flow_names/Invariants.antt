use Rattle.std.proofs.Common.{◌≡◌, map, take}
use Rattle.std.specs.Arc.{arc_value}
use Rattle.generation_store.specs.Published.{flow_name}
use Rattle.generation_store.proofs.flow_names.flow_names.Given as goal

abbrev pub invariant-loop-rule : goal.invariant-loop-rule
invariant-loop-rule l = l.looked_up.items ≡ map (flow_name l.names) (map arc_value (take l.rule-index l.rules))
