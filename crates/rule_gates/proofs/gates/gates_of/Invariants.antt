use Rattle.std.proofs.Common.{map, take}
use Rattle.std.specs.Arc.{arc_value}
use Rattle.rule_gates.specs.Gates.{AreGates}
use Rattle.rule_gates.proofs.gates.gates_of.Given as goal

abbrev pub invariant-loop-rule : goal.invariant-loop-rule
invariant-loop-rule l = AreGates (map arc_value (take l.rule-index l.rules)) l.gates.items
