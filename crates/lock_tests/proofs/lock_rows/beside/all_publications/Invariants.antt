use Rattle.std.proofs.Common.{◌≡◌, ◌+◌, ◌≤◌}
use Rattle.lock_tests.proofs.lock_rows.beside.all_publications.Given as goal

abbrev pub invariant-loop-next : goal.invariant-loop-next
invariant-loop-next g l = (2 ≤ l.next) × (l.next ≤ l.publications + 2) × (l.operator.table_id ≡ l.lock) × (l.operator.view.number + 1 ≡ l.next) × (l.operator.view.count ≡ 2)
