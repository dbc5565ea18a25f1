use Rattle.std.proofs.Common.{rules}
use Rattle.lock_tests.specs.contracts.edition.EditionNumbered.TheImpl as edition
use Rattle.lock_tests.specs.contracts.ledger.LedgerKept.TheImpl as ledger
use Rattle.rm_table.specs.Meanings.{meanings}
use Rattle.rm_table.proofs.Writes.{book_on_top}
use Rattle.lock_tests.proofs.table_rows.publication.take_ledger.Goals as goal

pub exchange_book-requires-clause-on_top : goal.exchange_book-requires-clause-on_top
exchange_book-requires-clause-on_top g c = book_on_top (meanings edition.ghosts ledger.ghosts) c.args.operator.now.me c.take_book.result c.take_book.new.seat.me (search rules) c.take_book.ensures.step
