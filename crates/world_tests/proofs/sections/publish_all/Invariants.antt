use Rattle.std.proofs.Common.{◌≡◌}
use Rattle.world_tests.proofs.sections.publish_all.Given as goal

abbrev pub invariant-loop-line : goal.invariant-loop-line
invariant-loop-line g l = (l.desk.world ≡ l.world) × (l.desk.lanes ≡ l.fn.desk.lanes)
