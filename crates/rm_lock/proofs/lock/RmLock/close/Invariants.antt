use Rattle.std.proofs.Common.{◌≡◌}
use Rattle.rm_lock.proofs.Joins.{Joining}
use Rattle.rm_lock.proofs.lock.RmLock.close.Given as goal

abbrev pub invariant-loop-processor : goal.invariant-loop-processor
invariant-loop-processor g l =
    (goal.iterator-loop-processor g).can_next l.processor-iterator ×
    (goal.iterator-loop-processor g).is_finite l.processor-iterator ×
    (l.seat.table_id ≡ l.table) × Joining l.initial.seat.me l.yielded l.seat.me
