use Rattle.std.proofs.Common.{rules, arith, ◌≡◌, Some, ◌∷◌, sym, ap, ◌∙◌, eq-eqb, ne_eqb}
use Rattle.rm_table.specs.Layout.{tracker_index}
use Rattle.rm_table.specs.Moves.{with_step, drained_view}
use Rattle.rm_table.specs.declared.padded_slot.Slot.TheVariants.{Edition}
use Rattle.fw_base.proofs.Logic.{was_true, was_false}
use Rattle.rm_table.proofs.table.RmTable.drain.Goals.{then-found-eq0, else-found-eq0}
use Rattle.rm_table.proofs.LockCalls.{drain_allows, drain_same}
use Rattle.rm_table.specs.Meanings.{meanings}
use Rattle.rm_table.proofs.table.RmTable.drain.Goals as goal

pub tracker_at-word-requires : goal.tracker_at-word-requires
tracker_at-word-requires g c = let count = ap (λ z. z.me.0.count) c.seat.view_is in omega (arith, c.requires.within)

pub load-found-requires : goal.load-found-requires
load-found-requires g c =
    let me = ap (λ z. z.me) c.seat.view_is in
    let same = ap (λ z. z.table_id) c.seat.view_is ∙ c.requires.table ∙ sym c.self.view_is in
    let size = ap (λ z. z.words) same in
    let count = ap (λ z. z.0.count) me in
    (same, omega (arith, c.requires.within), drain_allows _ _ _ _ _ c.args.processor (search rules) (rw me c.requires.operator) c.requires.above (rw me c.requires.within) (rw me c.requires.revoked) (rw me c.requires.undrained))

pub invariant_of-seat : goal.invariant_of-seat
invariant_of-seat g c =
    let old = c.seat.invariant in
    let got = c.load-found.ensures.2 c.args.processor (search rules) in
    let e = drain_same (meanings g.E.Numbered g.B.Kept) _ _ _ _ _ _ got in
    record {
      sized = search rules;
      placed = old.placed;
      within = λ role. old.within (sym e.role ∙ role);
      count_is = e.count ∙ old.count_is;
      place_is = e.place ∙ old.place_is;
      number_is = e.number ∙ old.number_is;
      tracker_is = e.tracker ∙ old.tracker_is;
      unbegun = rw (e.closing, e.kept) old.unbegun;
    }

pub returns-clause-step : goal.returns-clause-step
returns-clause-step g c =
    let me = ap (λ z. z.me) c.seat.view_is in
    let word : c.tracker_at-word.result ≡ tracker_index c.args.processor = search rules in
    let told = c.load-found.ensures.2 c.args.processor word in
    rw (sym me)
    (elim c.if-found-eq0.branch [
      | then-found-eq0 w ↦
          let got = was_true _ _ _ (eq-eqb _ _ w.if-found-eq0.true) told in
          rw w.result-is (c.load-found.result, got.0, w.if-found-eq0.true, got.1 ∙ ap (λ i. (with_step (drained_view c.seat.inside.seat.me.0 c.args.processor) i c.load-found.result, (c.args.processor, Edition (Some got.0)) ∷ c.seat.inside.seat.me.1)) word, got.2, got.3)
      | else-found-eq0 w ↦
          let got = was_false _ _ _ (ne_eqb _ _ w.if-found-eq0.false) told in
          rw w.result-is (c.load-found.result, search rules, got ∙ ap (λ i. (with_step c.seat.inside.seat.me.0 i c.load-found.result, c.seat.inside.seat.me.1)) word)
    ])
