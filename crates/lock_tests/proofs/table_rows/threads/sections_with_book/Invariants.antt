use Rattle.std.proofs.Common.{◌≡◌}
use Rattle.rm_table.specs.Rests.{IsIdle}
use Rattle.lock_tests.proofs.table_rows.threads.sections_with_book.Given as goal

abbrev pub invariant-loop : goal.invariant-loop
invariant-loop l = (l.seat.table_id ≡ l.table) × (l.seat.me.0.place ≡ l.place) × IsIdle l.seat.me.0 l.seat.me.1
