use Rattle.std.proofs.Common.{◌≡◌}
use Rattle.rm_table.specs.Rests.{IsIdle}
use Rattle.lock_bench.proofs.worker.Worker.sections.Given as goal

abbrev pub invariant-loop : goal.invariant-loop
invariant-loop g l = (l.seat.table_id ≡ l.table) × (l.seat.me.0.place ≡ l.place) × IsIdle l.seat.me.0 l.seat.me.1
