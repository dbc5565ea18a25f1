use Rattle.std.proofs.Common.{◌≡◌}
use Rattle.lock_tests.proofs.lock_rows.beside.all_turns.Given as goal

abbrev pub invariant-loop : goal.invariant-loop
invariant-loop g l = (l.reader.table_id ≡ l.lock) × (l.reader.view.place ≡ l.place)
