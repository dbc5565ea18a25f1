use Rattle.lock_tests.proofs.Entered.{entered_as_taken}
use Rattle.lock_tests.proofs.lock_rows.beside.section.Goals as goal

pub give_book-requires-clause-left : goal.give_book-requires-clause-left
give_book-requires-clause-left g c =
    entered_as_taken c.args.place _ c.args.r.view c.take_book-h.result.view c.take_book-h.result.book c.book-book.result.now c.add_entry.new.self
    c.take_book-h.ensures.taken c.book-book.ensures.value c.requires.place c.requires.above c.add_entry.ensures.last c.add_entry.ensures.lengths
