use Rattle.std.proofs.Common.{◌≡◌, ◌-◌, ◌≤◌}
use Rattle.rm_table.specs.Meanings.{meanings}
use Rattle.rm_lock.proofs.Marks.{Draining}
use Rattle.rm_lock.proofs.publishing.drain_all.Given as goal

abbrev pub invariant-loop-done : goal.invariant-loop-done
invariant-loop-done g l = (l.done ≤ l.processors) × (l.seat.table_id ≡ l.table) × Draining (meanings g.E.Numbered g.B.Kept) (l.processors - l.done) l.initial.seat.me l.seat.me
