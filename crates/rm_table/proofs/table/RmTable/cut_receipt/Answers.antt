use Rattle.std.proofs.Common.{rules, sym, ap, ◌∙◌}
use Rattle.rm_table.specs.Layout.{tracker_word}
use Rattle.rm_table.proofs.LockCalls.{receipt_splits}
use Rattle.rm_table.proofs.Begun.{unbegun_none}
use Rattle.rm_table.proofs.table.RmTable.cut_receipt.Goals as goal

pub split_seat-right-requires : goal.split_seat-right-requires
split_seat-right-requires g c =
    let me = ap (λ z. z.me) c.seat.view_is in
    let same = ap (λ z. z.table_id) c.seat.view_is ∙ c.requires.table ∙ sym c.self.view_is in
    (same, search rules, receipt_splits _ _ _ (rw me c.requires.operator))

pub invariant_of-result : goal.invariant_of-result
invariant_of-result g c =
    let e = ap (λ z. z.0) c.split_seat-right.ensures.4 in
    record {
      sized = search rules;
      placed = search rules;
      within = λ role. search rules;
      count_is = ap (λ w. w.count) e ∙ c.seat.invariant.count_is;
      place_is = ap (λ w. w.place) e;
      number_is = ap (λ w. w.number) e ∙ c.seat.invariant.number_is;
      tracker_is = ap (λ w. tracker_word w.part.sections w.phase) e;
      unbegun = rw (ap (λ w. w.closing) e, ap (λ w. w.kept) e) (unbegun_none _ _ _);
    }
