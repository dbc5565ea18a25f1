use Rattle.std.proofs.Common.{length, ◌-◌, ◌≤◌, ◌<◌}
use Rattle.rule_gates.specs.Hulls.{AreShut}
use Rattle.rule_gates.proofs.search.next_covered.Given as goal

abbrev pub invariant-loop-place : goal.invariant-loop-place
invariant-loop-place l = (l.from ≤ l.place) × (l.place - l.from ≤ length l.covered - l.from) × (0 < l.blocks) × AreShut l.key l.covered l.from l.place

abbrev pub decreases-loop-place : goal.decreases-loop-place
decreases-loop-place l = length l.covered - l.place
