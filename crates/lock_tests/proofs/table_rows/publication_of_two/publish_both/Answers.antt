use Rattle.std.proofs.Common.{refl, sym, ◌∙◌, ◌+◌, Some, [], ◌∷◌}
use Rattle.lock_tests.specs.contracts.edition.EditionNumbered.TheImpl as edition
use Rattle.lock_tests.specs.contracts.ledger.LedgerKept.TheImpl as ledger
use Rattle.rm_table.specs.Meanings.{meanings}
use Rattle.lock_tests.specs.declared.edition.Edition.{Edition}
use Rattle.rm_table.specs.Layout.{number_index, book_index}
use Rattle.rm_table.specs.Moves.{with_step, book_taken}
use Rattle.rm_table.specs.declared.padded_slot.Slot.TheVariants.{Edition as Home, Book as Held}
use Rattle.rm_table.proofs.Writes.{written_hand, next_of, published_of, has_written}
use Rattle.lock_tests.proofs.table_rows.publication_of_two.publish_both.Goals as goal

pub publish-requires-2-clause-editions : goal.publish-requires-2-clause-editions
publish-requires-2-clause-editions g c =
    let n : Edition = record { number = c.args.next } in
    let v = with_step (book_taken c.args.operator.now.me.0 c.take_ledger-book.result) book_index 0 in
    let hand = written_hand c.args.operator.now.me c.take_ledger-book.new.operator.me c.exchange_book-slot.new.seat.me c.turn.new.self.me ((1, Home (Some n)) ∷ (2, Home (Some n)) ∷ []) c.publish.new.self v c.requires.hand c.take_ledger-book.ensures.seat c.exchange_book-slot.ensures.now c.turn.ensures.turned in
    next_of (meanings edition.ghosts ledger.ghosts) c.turn.new.self.me v n c.publish.new.self 2 _ hand refl c.requires.same.0 (sym c.requires.same.1)

pub give_book-requires-clause-book : goal.give_book-requires-clause-book
give_book-requires-clause-book g c =
    let n : Edition = record { number = c.args.next } in
    let v = with_step (book_taken c.args.operator.now.me.0 c.take_ledger-book.result) book_index 0 in
    let hand = written_hand c.args.operator.now.me c.take_ledger-book.new.operator.me c.exchange_book-slot.new.seat.me c.turn.new.self.me ((1, Home (Some n)) ∷ (2, Home (Some n)) ∷ []) c.publish.new.self v c.requires.hand c.take_ledger-book.ensures.seat c.exchange_book-slot.ensures.now c.turn.ensures.turned in
    let after = published_of (meanings edition.ghosts ledger.ghosts) c.turn.new.self.me v n c.publish.new.self 2 ((2, Home (Some n)) ∷ (0, Held (Some c.publish.new.self)) ∷ []) number_index (c.turn.new.self.me.0.number + 1) c.publish-2.new.seat.me hand refl c.requires.same.0 c.publish-2.ensures.step in
    has_written (meanings edition.ghosts ledger.ghosts) v n c.take_ledger-book.result c.publish.new.self number_index (c.turn.new.self.me.0.number + 1) c.publish-2.new.seat.me after c.requires.operator.role refl c.requires.counts (c.publish.ensures.number ∙ sym c.requires.same.1) (sym c.publish.ensures.tag) c.take_ledger-book.ensures.publications c.publish.ensures.item c.publish.ensures.others
