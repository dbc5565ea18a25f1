use Rattle.std.proofs.Common.{rules, arith, sym, ap, ◌∙◌}
use Rattle.rm_table.proofs.LockCalls.{revoke_allows}
use Rattle.rm_table.specs.Layout.{tracker_word, token_index}
use Rattle.std.proofs.Common.{◌≡◌}
use Rattle.rm_table.proofs.table.RmTable.revoke.Goals as goal

pub store-requires : goal.store-requires
store-requires g c =
    let me = ap (λ z. z.me) c.seat.view_is in
    let same = ap (λ z. z.table_id) c.seat.view_is ∙ c.requires.table ∙ sym c.self.view_is in
    let size = ap (λ z. z.words) same in
    let count = ap (λ z. z.0.count) me in
    (same, omega (arith, c.requires.within), revoke_allows _ _ _ _ _ c.args.processor _ (search rules) (rw me c.requires.operator) c.requires.above (rw me c.requires.within) (rw me c.requires.behind) (rw me c.requires.unrevoked) (rw me c.requires.room) (search rules))

pub invariant_of-seat : goal.invariant_of-seat
invariant_of-seat g c =
    let old = c.seat.invariant in
    let word : c.token_at-word.result ≡ token_index c.seat.inside.seat.me.0.count c.args.processor = search rules in
    let e = c.store.ensures.2 c.args.processor word in
    record {
      sized = search rules;
      placed = old.placed;
      within = λ role. old.within (sym (ap (λ z. z.0.role) e) ∙ role);
      count_is = ap (λ z. z.0.count) e ∙ old.count_is;
      place_is = ap (λ z. z.0.place) e ∙ old.place_is;
      number_is = ap (λ z. z.0.number) e ∙ old.number_is;
      tracker_is = ap (λ z. tracker_word z.0.part.sections z.0.phase) e ∙ old.tracker_is;
      unbegun = rw e old.unbegun;
    }
