use Rattle.std.proofs.Common.{rules, sym, ap, ◌∙◌, ⊎_elim, inl, inr}
use Rattle.rm_table.proofs.LockCalls.{joins_by}
use Rattle.rm_table.proofs.Begun.{joined_same}
use Rattle.rm_table.specs.Layout.{tracker_word}
use Rattle.rm_table.proofs.table.RmTable.join_seat.Goals as goal

pub join_seat-requires : goal.join_seat-requires
join_seat-requires g c =
    let into = ap (λ z. z.me) c.into.view_is in
    let spent = ap (λ z. z.me) c.spent.view_is in
    let table = ap (λ z. z.table_id) c.into.view_is ∙ c.requires.table ∙ sym c.self.view_is in
    let same = ap (λ z. z.table_id) c.spent.view_is ∙ c.requires.same ∙ sym c.self.view_is in (
      table,
      same,
      rw spent (⊎_elim (λ closing. closing.1.empty_hand) (λ hearing. hearing.1.empty_hand) c.requires.pair),
      search rules,
      joins_by _ _ _ _ _ (rw (into, spent) (⊎_elim (λ closing. inl (closing.0, closing.1.processor, closing.1.out, closing.1.unheld)) (λ hearing. inr (hearing.0, hearing.1.receipt)) c.requires.pair)),
    )

pub invariant_of-into : goal.invariant_of-into
invariant_of-into g c =
    let old = c.into.invariant in
    let v = c.into.inside.seat.me.0 in
    let w = c.spent.inside.seat.me.0 in
    let e = c.join_seat.ensures.2 in
    let j = joined_same w.role v w old.unbegun in
    record {
      sized = search rules;
      placed = old.placed;
      within = λ role. old.within (sym (ap (λ z. z.0.role) e ∙ j.role) ∙ role);
      count_is = ap (λ z. z.0.count) e ∙ j.count ∙ old.count_is;
      place_is = ap (λ z. z.0.place) e ∙ j.place ∙ old.place_is;
      number_is = ap (λ z. z.0.number) e ∙ j.number ∙ old.number_is;
      tracker_is = ap (λ z. tracker_word z.0.part.sections z.0.phase) e ∙ j.tracker ∙ old.tracker_is;
      unbegun = rw (ap (λ z. z.0.closing) e, ap (λ z. z.0.kept) e) j.unbegun;
    }
