use Rattle.std.proofs.Common.{◌≡◌}
use Rattle.world_tests.proofs.beside.all_publications.Given as goal

abbrev pub invariant-loop : goal.invariant-loop
invariant-loop g l = (l.desk.world ≡ l.world) × (l.desk.lanes ≡ l.fn.desk.lanes)
