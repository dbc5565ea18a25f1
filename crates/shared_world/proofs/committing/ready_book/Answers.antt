use Rattle.shared_world.proofs.DeskSteps.{visited}
use Rattle.shared_world.proofs.committing.ready_book.Goals as goal

pub returns-clause-visits : goal.returns-clause-visits
returns-clause-visits g c =
    visited c.args.operator.view c.open_book-keeping.result.view c.shut_book.result.view c.open_book-keeping.result.book c.ready-made.new.self c.open_book-keeping.ensures.opened c.shut_book.ensures.given
