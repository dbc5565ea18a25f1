use Rattle.std.proofs.Common.{rules}
use Rattle.lock_tests.specs.contracts.edition.EditionNumbered.TheImpl as edition
use Rattle.lock_tests.specs.contracts.ledger.LedgerKept.TheImpl as ledger
use Rattle.rm_table.specs.Meanings.{meanings}
use Rattle.rm_table.proofs.Writes.{edition_on_top}
use Rattle.lock_tests.proofs.table_rows.publication_of_two.renew_edition.Goals as goal

pub exchange_edition-old-requires-clause-on_top : goal.exchange_edition-old-requires-clause-on_top
exchange_edition-old-requires-clause-on_top g c = edition_on_top (meanings edition.ghosts ledger.ghosts) c.args.operator.now.me c.args.place c.drain.result c.drain.new.seat.me (search rules) c.drain.ensures.step
