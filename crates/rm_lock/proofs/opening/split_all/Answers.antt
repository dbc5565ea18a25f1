use Rattle.std.proofs.Common.{rules, ◌+◌, ap, sym, subst}
use Rattle.rm_lock.proofs.Splits.{Splitting, splitting_one, may_be_split, may_count, new_is_out, split_rests, all_tokens}
use Rattle.rm_lock.proofs.opening.split_all.Goals as goal

pub split_seat-seat-requires-clause-operator : goal.split_seat-seat-requires-clause-operator
split_seat-seat-requires-clause-operator g c = (c.loop-place.invariant.3 c.requires.opening.0 c.requires.opening.1).opening.operator

pub split_seat-seat-requires-clause-opening : goal.split_seat-seat-requires-clause-opening
split_seat-seat-requires-clause-opening g c = λ _. (c.loop-place.invariant.3 c.requires.opening.0 c.requires.opening.1).opening.opening

pub split_seat-seat-requires-clause-within : goal.split_seat-seat-requires-clause-within
split_seat-seat-requires-clause-within g c = (let e = ap (λ v. v.count) (c.loop-place.invariant.3 c.requires.opening.0 c.requires.opening.1).same in let n = c.requires.count in let test = c.loop-place-test.true in may_count c.loop-place.place c.args.processors c.loop-place.seat.me.0.count c.args.seat.now.me.0.count (search rules) e n)

pub split_seat-seat-requires-clause-kept : goal.split_seat-seat-requires-clause-kept
split_seat-seat-requires-clause-kept g c = λ _. may_be_split c.loop-place.place c.args.table.now c.requires.opening.0 c.args.seat.now.me c.loop-place.seat.me c.loop-place.tokens.items (let e = ap (λ v. v.count) (c.loop-place.invariant.3 c.requires.opening.0 c.requires.opening.1).same in let n = c.requires.count in let test = c.loop-place-test.true in may_count c.loop-place.place c.args.processors c.loop-place.seat.me.0.count c.args.seat.now.me.0.count (search rules) e n) (c.loop-place.invariant.3 c.requires.opening.0 c.requires.opening.1)

pub invariant_of-push : goal.invariant_of-push
invariant_of-push g c = new_is_out c.loop-place.place c.args.number c.requires.opening.0 c.loop-place.seat.me c.split_seat-seat.result.me (c.split_seat-seat.ensures.right (search rules)) (let e = ap (λ v. v.count) (c.loop-place.invariant.3 c.requires.opening.0 c.requires.opening.1).same in let n = c.requires.count in let test = c.loop-place-test.true in may_count c.loop-place.place c.args.processors c.loop-place.seat.me.0.count c.args.seat.now.me.0.count (search rules) e n) (c.requires.opening.2 c.loop-place.place).0 (c.requires.opening.2 c.loop-place.place).1 (c.requires.opening.2 c.loop-place.place).2 (c.loop-place.invariant.3 c.requires.opening.0 c.requires.opening.1).opening

pub loop-place-preserved : goal.loop-place-preserved
loop-place-preserved g c = (
  search rules,
  search rules,
  search rules,
  λ parts o. subst (λ ts. Splitting (c.loop-place.place + 1) c.args.table.now parts c.args.seat.now.me c.split_seat-seat.new.seat.me ts) (sym c.in_ok-push.ensures.items)
      (splitting_one c.loop-place.place c.args.table.now c.split_seat-seat.result.table_id parts c.args.seat.now.me c.loop-place.seat.me c.split_seat-seat.new.seat.me c.split_seat-seat.result.me c.loop-place.tokens.items (search rules) (let e = ap (λ v. v.count) (c.loop-place.invariant.3 c.requires.opening.0 c.requires.opening.1).same in let n = c.requires.count in let test = c.loop-place-test.true in may_count c.loop-place.place c.args.processors c.loop-place.seat.me.0.count c.args.seat.now.me.0.count (search rules) e n) (search rules) (c.split_seat-seat.ensures.left (search rules)) (c.split_seat-seat.ensures.right (search rules)) (c.loop-place.invariant.3 parts o)),
)

pub returns-clause-at_rest : goal.returns-clause-at_rest
returns-clause-at_rest g c = split_rests c.loop-place.place c.args.table.now c.requires.opening.0 c.args.seat.now.me c.loop-place.seat.me c.loop-place.tokens.items (let n = c.requires.count in search rules) (c.loop-place.invariant.3 c.requires.opening.0 c.requires.opening.1)

pub returns-clause-same : goal.returns-clause-same
returns-clause-same g c = (c.loop-place.invariant.3 c.requires.opening.0 c.requires.opening.1).same

pub returns-clause-tokens : goal.returns-clause-tokens
returns-clause-tokens g c = λ parts o. all_tokens c.loop-place.place c.args.processors c.args.table.now parts c.args.seat.now.me c.loop-place.seat.me c.loop-place.tokens.items (search rules) (c.loop-place.invariant.3 parts o)
