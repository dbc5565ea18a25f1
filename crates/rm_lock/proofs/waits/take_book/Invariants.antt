use Rattle.std.proofs.Common.{◌≡◌}
use Rattle.rm_table.specs.Layout.{book_index}
use Rattle.rm_table.specs.Moves.{IsWorking}
use Rattle.rm_lock.proofs.Tries.{Waiting}
use Rattle.rm_lock.proofs.waits.take_book.Given as goal

abbrev pub invariant-loop : goal.invariant-loop
invariant-loop g l = (l.seat.table_id ≡ l.table) × IsWorking l.seat.me.0 × Waiting book_index l.initial.seat.me l.seat.me
