use Rattle.std.proofs.Common.{◌≡◌, ◌+◌, ◌≤◌}
use Rattle.rm_table.specs.Rests.{OpensFrom}
use Rattle.lock_bench.proofs.worker.Worker.all.Given as goal

abbrev pub invariant-loop-place : goal.invariant-loop-place
invariant-loop-place l =
    (1 ≤ l.place) × (l.place ≤ l.processors + 1) × (l.operator.table_id ≡ l.table) × (l.operator.me.0.count ≡ l.processors) × OpensFrom l.place l.operator.me.0 l.operator.me.1
