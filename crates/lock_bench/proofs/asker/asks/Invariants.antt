use Rattle.std.proofs.Common.{◌≡◌}
use Rattle.lock_bench.proofs.asker.asks.Given as goal

abbrev pub invariant-loop-record : goal.invariant-loop-record
invariant-loop-record g l = l.asker.table_id ≡ l.lock
