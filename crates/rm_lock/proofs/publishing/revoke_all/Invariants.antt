use Rattle.std.proofs.Common.{◌≡◌, ◌+◌, ◌≤◌}
use Rattle.rm_lock.proofs.Marks.{Revoking}
use Rattle.rm_lock.proofs.publishing.revoke_all.Given as goal

abbrev pub invariant-loop-processor : goal.invariant-loop-processor
invariant-loop-processor g l = (1 ≤ l.processor) × (l.processor ≤ l.processors + 1) × (l.seat.table_id ≡ l.table) × Revoking l.processor l.initial.seat.me l.seat.me
