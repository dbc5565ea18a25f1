use Rattle.std.proofs.Common.{rules, ◌<◌, ◌∙◌, ap, refl, sym}
use Rattle.std.specs.Prelude.{vec_len}
use Rattle.rm_table.specs.Meanings.{meanings}
use Rattle.rm_table.specs.Ends.{first_part}
use Rattle.rm_lock.specs.Ends.{unkept_view}
use Rattle.rm_lock.proofs.Splits.{first_opening, first_at_rest, opens_as}
use Rattle.rm_lock.proofs.lock.RmLock.open.Goals as goal

pub split_all-requires-clause-count : goal.split_all-requires-clause-count
split_all-requires-clause-count g c =
    let e = c.requires.opens in
    ap (λ z. z.0.count) (c.in_ok-table.ensures.seat e.0 e.1) ∙ sym c.len-processors.ensures

pub split_all-requires-clause-opening : goal.split_all-requires-clause-opening
split_all-requires-clause-opening g c =
    let e = c.requires.opens in
    (first_part (meanings g.E.Numbered g.B.Kept) c.args.book, first_opening (meanings g.E.Numbered g.B.Kept) (vec_len c.args.editions) e.0 c.args.book c.in_ok-table.field-0.seat.me (let some = e.2.some_there in search rules) (c.in_ok-table.ensures.seat e.0 e.1), λ k. (sym c.current-number.ensures, refl, refl))

pub invariant_of-result : goal.invariant_of-result
invariant_of-result g c =
    let e = c.requires.opens in
    first_at_rest (meanings g.E.Numbered g.B.Kept) (vec_len c.args.editions) c.len-processors.result e.0 c.args.book c.split_all.new.seat.me.0 c.split_all.new.seat.me.1 c.current-number.result (sym c.len-processors.ensures) (search rules) (sym c.current-number.ensures) c.in_ok-tokens.ensures.at_rest
    (c.in_ok-tokens.ensures.same ∙ ap (λ z. unkept_view z.0) (c.in_ok-table.ensures.seat e.0 e.1))

pub returns : goal.returns
returns g c = record {
  opened = λ edition at.
      let some : 0 < vec_len c.args.editions = let e = c.requires.opens in let some = e.2.some_there in search rules in
      let me = c.in_ok-table.ensures.seat edition at in
      opens_as (meanings g.E.Numbered g.B.Kept) (vec_len c.args.editions) edition c.args.book c.in_ok-table.field-0.table c.split_all.new.seat.table_id c.in_ok-table.field-0.seat.me c.split_all.new.seat.me.0 c.in_ok-tokens.tokens.items c.len-processors.result c.len-processors.ensures me (search rules) c.in_ok-tokens.ensures.same
      (c.in_ok-tokens.ensures.tokens (first_part (meanings g.E.Numbered g.B.Kept) c.args.book) (first_opening (meanings g.E.Numbered g.B.Kept) (vec_len c.args.editions) edition c.args.book c.in_ok-table.field-0.seat.me some me));
}
