use Rattle.std.proofs.Common.{ℕ, ◌<◌, get_or}
use Rattle.rule_gates.specs.Hulls.{IsUnder}
use Rattle.rule_gates.specs.declared.gate.Gate.{Gate}
use Rattle.rule_gates.proofs.hull_making.hull_of.Given as goal

abbrev pub invariant-loop-gate : goal.invariant-loop-gate
invariant-loop-gate l = (place : ℕ) (any : Gate) → place < l.gate-index → IsUnder (get_or l.gates place any) l.hull
