use Rattle.std.proofs.Common.{◌≡◌}
use Rattle.lock_bench.proofs.reader.sections.Given as goal

abbrev pub invariant-loop : goal.invariant-loop
invariant-loop g l = l.reader.table_id ≡ l.lock
