use Rattle.lock_bench.specs.contracts.edition.EditionNumbered.TheImpl as edition
use Rattle.lock_bench.specs.contracts.book.BookKept.TheImpl as ledger
use Rattle.rm_table.specs.Meanings.{meanings}
use Rattle.rm_table.proofs.Writes.{book_on_top}
use Rattle.lock_bench.proofs.worker.try_book.Goals as goal

pub exchange_book-requires-clause-on_top : goal.exchange_book-requires-clause-on_top
exchange_book-requires-clause-on_top c = book_on_top (meanings edition.ghosts ledger.ghosts) c.args.seat.now.me c.take_book.result c.take_book.new.seat.me c.in-Taken.is c.take_book.ensures.step
