use Rattle.std.proofs.Common.{◌-◌, ◌≤◌}
use Rattle.rule_gates.specs.Hulls.{AreShut}
use Rattle.rule_gates.proofs.search.scan.Given as goal

abbrev pub invariant-loop-place : goal.invariant-loop-place
invariant-loop-place l = (l.from ≤ l.place) × (l.place - l.from ≤ l.end - l.from) × AreShut l.key l.gates l.from l.place

abbrev pub decreases-loop-place : goal.decreases-loop-place
decreases-loop-place l = l.end - l.place
