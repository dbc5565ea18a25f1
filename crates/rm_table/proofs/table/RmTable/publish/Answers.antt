use Rattle.std.proofs.Common.{rules, arith, sym, ap, ◌∙◌}
use Rattle.rm_table.proofs.LockCalls.{publish_allows}
use Rattle.rm_table.specs.Layout.{tracker_word}
use Rattle.rm_table.proofs.Base.{some_of}
use Rattle.rm_table.proofs.Publishing.{published_is}
use Rattle.rm_table.specs.Moves.{with_step, rest_from}
use Rattle.std.proofs.Common.{◌+◌}
use Rattle.rm_table.specs.Meanings.{meanings}
use Rattle.rm_table.proofs.table.RmTable.publish.Goals as goal

pub store-requires : goal.store-requires
store-requires g c =
    let me = ap (λ z. z.me) c.seat.view_is in
    let same = ap (λ z. z.table_id) c.seat.view_is ∙ c.requires.table ∙ sym c.self.view_is in
    let size = ap (λ z. z.words) same in
    let book = some_of c.seat.inside.seat.me.0.book (rw me c.requires.book) in
    (same, omega arith, publish_allows _ _ _ _ _ _ book.0 (search rules) (rw me c.requires.operator) (rw me c.requires.editions) (rw me c.requires.drained) (rw me c.requires.behind) book.1 (search rules) (search rules))

pub invariant_of-seat : goal.invariant_of-seat
invariant_of-seat g c =
    let me = ap (λ z. z.me) c.seat.view_is in
    let old = c.seat.invariant in
    let p = published_is (meanings g.E.Numbered g.B.Kept) c.seat.inside.seat.me.0 c.seat.inside.seat.me.1 (rw me c.requires.editions) (search rules) in
    let e = c.store.ensures.2 ∙ (λ j. (with_step (p j) c.number_at.result (c.seat.inside.number + 1), rest_from c.seat.inside.seat.me.0.count c.seat.inside.seat.me.1)) in
    record {
      sized = search rules;
      placed = old.placed;
      within = λ role. old.within (sym (ap (λ z. z.0.role) e) ∙ role);
      count_is = ap (λ z. z.0.count) e ∙ old.count_is;
      place_is = ap (λ z. z.0.place) e ∙ old.place_is;
      number_is = ap (λ z. z.0.number) e ∙ ap (λ n. n + 1) old.number_is;
      tracker_is = ap (λ z. tracker_word z.0.part.sections z.0.phase) e ∙ old.tracker_is;
      unbegun = rw (ap (λ z. z.0.closing) e, ap (λ z. z.0.kept) e) old.unbegun;
    }
