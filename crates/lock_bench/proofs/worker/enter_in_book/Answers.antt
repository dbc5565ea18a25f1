use Rattle.std.proofs.Common.{ap, ◌∙◌}
use Rattle.lock_bench.proofs.Entries.{has_entered, seat_after_entry, inside_again}
use Rattle.lock_bench.proofs.worker.enter_in_book.Goals as goal

pub give_book-requires-clause-book : goal.give_book-requires-clause-book
give_book-requires-clause-book c =
    has_entered c.args.seat.now.me c.try_book.new.seat.me c.exchange_book.new.seat.me c.in-Some.book c.add_entry.new.self c.args.place _ c.requires.inside.processor c.requires.place c.requires.above c.in-Some.ensures.tried c.add_entry.ensures.number c.add_entry.ensures.lengths c.exchange_book.ensures.now

pub returns-clause-place : goal.returns-clause-place
returns-clause-place c =
    ap (λ s. s.0.place) (seat_after_entry c.args.seat.now.me c.try_book.new.seat.me c.exchange_book.new.seat.me c.give_book.new.seat.me c.in-Some.book c.add_entry.new.self c.in-Some.ensures.tried c.exchange_book.ensures.now c.give_book.ensures.step) ∙ c.requires.place

pub returns-clause-inside : goal.returns-clause-inside
returns-clause-inside c =
    inside_again c.args.seat.now.me c.give_book.new.seat.me c.in-Some.book c.add_entry.new.self c.requires.inside
    (seat_after_entry c.args.seat.now.me c.try_book.new.seat.me c.exchange_book.new.seat.me c.give_book.new.seat.me c.in-Some.book c.add_entry.new.self c.in-Some.ensures.tried c.exchange_book.ensures.now c.give_book.ensures.step)

pub returns-clause-sections : goal.returns-clause-sections
returns-clause-sections c =
    ap (λ s. s.0.part.sections) (seat_after_entry c.args.seat.now.me c.try_book.new.seat.me c.exchange_book.new.seat.me c.give_book.new.seat.me c.in-Some.book c.add_entry.new.self c.in-Some.ensures.tried c.exchange_book.ensures.now c.give_book.ensures.step)

pub returns-clause-entered : goal.returns-clause-entered
returns-clause-entered c is =
    ap (λ s. s.0.part.book_taken) (seat_after_entry c.args.seat.now.me c.try_book.new.seat.me c.exchange_book.new.seat.me c.give_book.new.seat.me c.in-Some.book c.add_entry.new.self c.in-Some.ensures.tried c.exchange_book.ensures.now c.give_book.ensures.step)
