use Rattle.lock_bench.proofs.Entries.{edition_on_top}
use Rattle.lock_bench.proofs.worker.read_edition.Goals as goal

pub exchange_edition-requires-clause-on_top : goal.exchange_edition-requires-clause-on_top
exchange_edition-requires-clause-on_top c = edition_on_top c.args.seat.now.me c.args.place c.requires.inside c.requires.place
