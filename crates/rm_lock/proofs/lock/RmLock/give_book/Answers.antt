use Rattle.rm_table.specs.Meanings.{meanings}
use Rattle.rm_lock.proofs.Givings.{gave, holder_has, in_again}
use Rattle.rm_lock.proofs.lock.RmLock.give_book.Goals as goal

pub give_book-requires-clause-book : goal.give_book-requires-clause-book
give_book-requires-clause-book g c = holder_has (meanings g.E.Numbered g.B.Kept) c.args.h c.h.inside.seat.table_id c.h.inside.seat.me c.put_book.new.seat.me c.h.inside.book c.h.inside.place c.h.inside.refused c.h.inside.edition c.h.view_is c.h.invariant c.requires.left c.put_book.ensures.now

pub invariant_of-result : goal.invariant_of-result
invariant_of-result g c = in_again (meanings g.E.Numbered g.B.Kept) c.h.inside.seat.me c.put_book.new.seat.me c.give_book.new.seat.me c.h.inside.book c.h.inside.place c.h.inside.refused c.h.inside.edition c.h.invariant c.put_book.ensures.now c.give_book.ensures.step

pub returns-clause-given : goal.returns-clause-given
returns-clause-given g c = gave (meanings g.E.Numbered g.B.Kept) c.args.h c.h.inside.seat.table_id c.h.inside.seat.me c.put_book.new.seat.me c.give_book.new.seat.me c.h.inside.book c.h.view_is c.put_book.ensures.now c.give_book.ensures.step
