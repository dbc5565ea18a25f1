use Rattle.rm_table.specs.Meanings.{meanings}
use Rattle.rm_lock.proofs.Givings.{gave, keeper_works, keeper_has, at_rest_again}
use Rattle.rm_lock.proofs.lock.RmLock.shut_book.Goals as goal

pub give_book-requires-clause-working : goal.give_book-requires-clause-working
give_book-requires-clause-working g c = keeper_works (meanings g.E.Numbered g.B.Kept) c.k.inside.seat.me c.put_book.new.seat.me c.k.inside.book c.k.inside.processors c.k.inside.number c.k.invariant c.put_book.ensures.now

pub give_book-requires-clause-book : goal.give_book-requires-clause-book
give_book-requires-clause-book g c = keeper_has (meanings g.E.Numbered g.B.Kept) c.args.k c.k.inside.seat.table_id c.k.inside.seat.me c.put_book.new.seat.me c.k.inside.book c.k.inside.processors c.k.inside.number c.k.view_is c.k.invariant c.requires.left c.put_book.ensures.now

pub invariant_of-result : goal.invariant_of-result
invariant_of-result g c = at_rest_again (meanings g.E.Numbered g.B.Kept) c.k.inside.seat.me c.put_book.new.seat.me c.give_book.new.seat.me c.k.inside.book c.k.inside.processors c.k.inside.number c.k.invariant c.put_book.ensures.now c.give_book.ensures.step

pub returns-clause-given : goal.returns-clause-given
returns-clause-given g c = gave (meanings g.E.Numbered g.B.Kept) c.args.k c.k.inside.seat.table_id c.k.inside.seat.me c.put_book.new.seat.me c.give_book.new.seat.me c.k.inside.book c.k.view_is c.put_book.ensures.now c.give_book.ensures.step
