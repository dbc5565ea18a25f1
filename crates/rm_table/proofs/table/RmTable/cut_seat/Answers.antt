use Rattle.std.proofs.Common.{rules, ◌≡◌, Some, sym, ap, ◌∙◌, subst}
use Rattle.atomic_table.specs.Table.{Splits}
use Rattle.rm_table.specs.Layout.{tracker_word}
use Rattle.rm_table.specs.Rule.{Whole}
use Rattle.rm_table.specs.Meanings.{meanings}
use Rattle.rm_table.specs.Moves.{right_of, kept_at, split_off}
use Rattle.rm_core.specs.declared.processor_state.Phase.TheVariants.{Out}
use Rattle.rm_table.proofs.LockCalls.{splits}
use Rattle.rm_table.proofs.Begun.{unbegun_at, unbegun_split, unbegun_none}
use Rattle.rm_table.proofs.table.RmTable.cut_seat.Goals as goal

pub split_seat-right-requires : goal.split_seat-right-requires
split_seat-right-requires g c =
    let v = c.seat.inside.seat.me.0 in
    let me = ap (λ z. z.me) c.seat.view_is in
    let same = ap (λ z. z.table_id) c.seat.view_is ∙ c.requires.table ∙ sym c.self.view_is in
    let kept : kept_at v c.args.place ≡ Some (Some c.requires.kept.0) = rw me c.requires.kept.1 in (
      same,
      search rules,
      subst (λ k. Splits (Whole (meanings g.E.Numbered g.B.Kept)) c.seat.inside.seat.id v (split_off v k) (right_of v k (kept_at v k))) (sym c.requires.picked)
          (splits _ _ _ _ c.requires.kept.0 (rw me c.requires.operator) kept),
    )

pub invariant_of-seat : goal.invariant_of-seat
invariant_of-seat g c =
    let old = c.seat.invariant in
    let e = c.split_seat-right.ensures.2 ∙ ap (λ k. (split_off c.seat.inside.seat.me.0 k, c.seat.inside.seat.me.1)) c.requires.picked in
    record {
      sized = search rules;
      placed = old.placed;
      within = λ role. old.within (sym (ap (λ z. z.0.role) e) ∙ role);
      count_is = ap (λ z. z.0.count) e ∙ old.count_is;
      place_is = ap (λ z. z.0.place) e ∙ old.place_is;
      number_is = ap (λ z. z.0.number) e ∙ old.number_is;
      tracker_is = ap (λ z. tracker_word z.0.part.sections z.0.phase) e ∙ old.tracker_is;
      unbegun = rw (ap (λ z. z.0.closing) e, ap (λ z. z.0.kept) e) (unbegun_split _ _ c.args.place old.unbegun);
    }

pub invariant_of-result : goal.invariant_of-result
invariant_of-result g c =
    let v = c.seat.inside.seat.me.0 in
    let me = ap (λ z. z.me) c.seat.view_is in
    let kept : kept_at v c.args.place ≡ Some (Some c.requires.kept.0) = rw me c.requires.kept.1 in
    let fresh = unbegun_at _ _ c.args.place c.requires.kept.0 c.seat.invariant.unbegun (rw me c.requires.opening) kept in
    let e = ap (λ z. z.0) c.split_seat-right.ensures.4 ∙ ap (λ k. right_of v k (kept_at v k)) c.requires.picked ∙ ap (right_of v c.args.place) kept in
    record {
      sized = search rules;
      placed = search rules;
      within = λ role. search rules;
      count_is = ap (λ w. w.count) e ∙ c.seat.invariant.count_is;
      place_is = ap (λ w. w.place) e;
      number_is = ap (λ w. w.number) e;
      tracker_is = ap (λ w. tracker_word w.part.sections w.phase) e ∙ ap (λ n. tracker_word n Out) fresh;
      unbegun = rw (ap (λ w. w.closing) e, ap (λ w. w.kept) e) (unbegun_none _ _ _);
    }
