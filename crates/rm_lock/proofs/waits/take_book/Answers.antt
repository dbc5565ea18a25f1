use Rattle.std.proofs.Common.{rules}
use Rattle.rm_table.specs.Layout.{book_index}
use Rattle.rm_lock.proofs.Tries.{works_on, waits_on}
use Rattle.rm_lock.proofs.waits.take_book.Goals as goal

pub loop-preserved : goal.loop-preserved
loop-preserved g c = (
  search rules,
  works_on book_index c.in-HeldBy.field-0 c.loop.seat.me c.take_book.new.seat.me c.loop.invariant.1 c.in-HeldBy.ensures.step.0,
  waits_on book_index c.in-HeldBy.field-0 c.args.seat.now.me c.loop.seat.me c.take_book.new.seat.me c.loop.invariant.2 c.in-HeldBy.ensures.step.0,
)
