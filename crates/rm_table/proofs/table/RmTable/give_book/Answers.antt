use Rattle.std.proofs.Common.{rules, arith, sym, ap, ◌∙◌}
use Rattle.atomic_table.specs.Table.{rest}
use Rattle.rm_table.specs.Layout.{tracker_word}
use Rattle.rm_table.specs.Meanings.{meanings}
use Rattle.rm_table.specs.Moves.{with_step, book_given, HasBook}
use Rattle.rm_table.proofs.LockCalls.{give_book_allows}
use Rattle.rm_table.proofs.table.RmTable.give_book.Goals as goal

pub store-requires : goal.store-requires
store-requires g c =
    let me = ap (λ z. z.me) c.seat.view_is in
    let same = ap (λ z. z.table_id) c.seat.view_is ∙ c.requires.table ∙ sym c.self.view_is in
    let size = ap (λ z. z.words) same in
    (same, omega arith, give_book_allows _ _ _ _ _ (search rules) (rw me c.requires.working) (rw me c.requires.book))

pub invariant_of-seat : goal.invariant_of-seat
invariant_of-seat g c =
    let me = ap (λ z. z.me) c.seat.view_is in
    let old = c.seat.invariant in
    let h : HasBook (meanings g.E.Numbered g.B.Kept) c.seat.inside.seat.me.0 c.seat.inside.seat.me.1 = rw me c.requires.book in
    let e = c.store.ensures.2 h.book h.hand_is in
    record {
      sized = search rules;
      placed = old.placed;
      within = λ role. old.within (sym (ap (λ z. z.0.role) e) ∙ role);
      count_is = ap (λ z. z.0.count) e ∙ old.count_is;
      place_is = ap (λ z. z.0.place) e ∙ old.place_is;
      number_is = ap (λ z. z.0.number) e ∙ old.number_is;
      tracker_is = ap (λ z. tracker_word z.0.part.sections z.0.phase) e ∙ old.tracker_is;
      unbegun = rw (ap (λ z. z.0.closing) e, ap (λ z. z.0.kept) e) old.unbegun;
    }

pub returns-clause-step : goal.returns-clause-step
returns-clause-step g c =
    let me = ap (λ z. z.me) c.seat.view_is in
    rw (sym me) (λ book top. c.store.ensures.2 book top ∙ ap (λ i. (with_step (book_given (meanings g.E.Numbered g.B.Kept) c.seat.inside.seat.me.0 book) i 0, rest c.seat.inside.seat.me.1)) c.book_at.ensures)
