use Rattle.std.proofs.Common.{◌≡◌, false, Some, arith, sym, ap, ◌∙◌}
use Rattle.std.specs.Prelude.{slice_index_or, length}
use Rattle.std.specs.Slots.{slots_items, slots_filled}
use Rattle.rm_table.specs.Meanings.{meanings}
use Rattle.rm_table.proofs.Base.{taken_is, taken_at, cleared}
use Rattle.rm_table.proofs.AtClosing.{closing_ends, closes}
use Rattle.rm_table.proofs.table.RmTable.close.Goals as goal

pub take_editions-editions-requires-clause-filled : goal.take_editions-editions-requires-clause-filled
take_editions-editions-requires-clause-filled g c = λ k low high. c.close_with-closed.ensures.values.1 k (omega arith) (omega arith)

pub take_editions-editions-requires-clause-editions : goal.take_editions-editions-requires-clause-editions
take_editions-editions-requires-clause-editions g c =
    let me = ap (λ z. z.me) c.operator.view_is in
    let h = closing_ends (meanings g.E.Numbered g.B.Kept) c.operator.inside.seat.id c.operator.inside.seat.me.0 (slots_items c.close_with-closed.result.words) (slots_items c.close_with-closed.result.slots) (rw me c.requires.operator) (rw me c.requires.joined) (rw me c.requires.undrained) (rw me c.requires.bookless) c.close_with-closed.ensures.values.2 in
    let same = ap (λ z. z.table_id) c.operator.view_is ∙ c.requires.table ∙ sym c.self.view_is in
    let count : c.self.inside.processors ≡ c.operator.inside.seat.me.0.count = omega (arith, ap (λ z. z.slots) same) in
    λ k low high. let got = h.editions k low (omega arith) in (got.0, got.1)

pub book_in-book-requires : goal.book_in-book-requires
book_in-book-requires g c =
    let me = ap (λ z. z.me) c.operator.view_is in
    let h = closing_ends (meanings g.E.Numbered g.B.Kept) c.operator.inside.seat.id c.operator.inside.seat.me.0 (slots_items c.close_with-closed.result.words) (slots_items c.close_with-closed.result.slots) (rw me c.requires.operator) (rw me c.requires.joined) (rw me c.requires.undrained) (rw me c.requires.bookless) c.close_with-closed.ensures.values.2 in
    (h.book, taken_is _ _ _ _ _ c.take_editions-editions.ensures.items c.take.ensures.value h.book_is)

pub free-requires : goal.free-requires
free-requires g c = λ k inside.
    ap (λ fs. slice_index_or fs k false) c.take.ensures.others.1
    ∙ cleared (slots_filled c.take_editions-editions.new.closed.slots) 0 k (λ other. c.take_editions-editions.ensures.taken k (grind (arith, other)) (omega arith))

pub returns : goal.returns
returns g c =
    let me = ap (λ z. z.me) c.operator.view_is in
    let h = closing_ends (meanings g.E.Numbered g.B.Kept) c.operator.inside.seat.id c.operator.inside.seat.me.0 (slots_items c.close_with-closed.result.words) (slots_items c.close_with-closed.result.slots) (rw me c.requires.operator) (rw me c.requires.joined) (rw me c.requires.undrained) (rw me c.requires.bookless) c.close_with-closed.ensures.values.2 in
    let same = ap (λ z. z.table_id) c.operator.view_is ∙ c.requires.table ∙ sym c.self.view_is in
    let count : c.self.inside.processors ≡ c.operator.inside.seat.me.0.count = omega (arith, ap (λ z. z.slots) same) in
    let book = taken_at _ _ _ _ c.take_editions-editions.ensures.items c.take.ensures.value ∙ ap (λ s. Some s) c.book_in-book.ensures in
    let trackers : length c.trackers_of-trackers.result.items ≡ c.operator.inside.seat.me.0.count = let e = c.trackers_of-trackers.result.ok.0 in let f = c.trackers_of-trackers.ensures.count in omega arith in
    let editions : length c.take_editions-editions.result.items ≡ c.operator.inside.seat.me.0.count = let e = c.take_editions-editions.result.ok.0 in let f = c.take_editions-editions.ensures.count in omega arith in
    rw (sym me) (closes (meanings g.E.Numbered g.B.Kept) c.operator.inside.seat.me.0 (slots_items c.close_with-closed.result.words) (slots_items c.close_with-closed.result.slots) c.book_in-book.result c.trackers_of-trackers.result.items c.take_editions-editions.result.items h book trackers editions
    (λ j inside. c.trackers_of-trackers.ensures.each j (omega arith)) c.take_editions-editions.ensures.each)
