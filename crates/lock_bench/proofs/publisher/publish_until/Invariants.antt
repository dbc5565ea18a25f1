use Rattle.std.proofs.Common.{◌≡◌}
use Rattle.lock_bench.proofs.publisher.publish_until.Given as goal

abbrev pub invariant-loop-published : goal.invariant-loop-published
invariant-loop-published g l = (l.operator.table_id ≡ l.lock) × (l.operator.view.count ≡ l.processors)
