use Rattle.std.proofs.Common.{◌≡◌}
use Rattle.rm_table.specs.Layout.{tracker_index}
use Rattle.rm_table.specs.Moves.{IsOperator}
use Rattle.rm_lock.proofs.Tries.{Waiting}
use Rattle.rm_lock.proofs.waits.drain.Given as goal

abbrev pub invariant-loop : goal.invariant-loop
invariant-loop g l = (l.seat.table_id ≡ l.table) × IsOperator l.seat.me.0 × Waiting (tracker_index l.processor) l.initial.seat.me l.seat.me
