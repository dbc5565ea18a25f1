use Rattle.std.proofs.Common.{◌≡◌, ℕ, ◌*◌, ◌/◌, ◌-◌, ◌<◌, get_or, length}
use Rattle.rule_gates.specs.Hulls.{IsUnder}
use Rattle.rule_gates.specs.declared.gate.Gate.{Gate}
use Rattle.rule_gates.proofs.hull_making.hulls_of.Given as goal

abbrev pub invariant-loop-start : goal.invariant-loop-start
invariant-loop-start l = (l.start ≡ length l.hulls.items * 32)
    × ((place : ℕ) (any : Gate) → place < l.start → place < length l.gates → IsUnder (get_or l.gates place any) (get_or l.hulls.items (place / 32) any))

abbrev pub decreases-loop-start : goal.decreases-loop-start
decreases-loop-start l = length l.gates - l.start
