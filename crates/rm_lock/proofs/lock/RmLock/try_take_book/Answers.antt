use Rattle.std.proofs.Common.{rules}
use Rattle.rm_table.specs.Meanings.{meanings}
use Rattle.rm_lock.proofs.Tries.{takes_book_at_once}
use Rattle.rm_lock.proofs.lock.RmLock.try_take_book.Goals as goal

pub returns-in-Taken : goal.returns-in-Taken
returns-in-Taken g c = record {
  tried = (
    search rules,
    takes_book_at_once (meanings g.E.Numbered g.B.Kept) c.args.r c.r.inside.seat.table_id c.r.inside.seat.me c.take_book.new.seat.me c.take_out_book-book.new.seat.me c.take_out_book-book.result c.r.inside.place c.r.inside.refused c.r.inside.edition c.r.view_is c.r.invariant c.in-Taken.ensures.step c.take_out_book-book.ensures.was c.take_out_book-book.ensures.now,
  );
}

pub returns-in-HeldBy : goal.returns-in-HeldBy
returns-in-HeldBy g c = record { tried = record { lock = search rules; step = search rules; somebody = search rules } }
