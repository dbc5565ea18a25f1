use Rattle.std.proofs.Common.{rules, arith}
use Rattle.rm_table.proofs.Resting.{after_split, may_split, opening_ends}
use Rattle.lock_tests.proofs.table_rows.seats.open_pair.Goals as goal

pub split_seat-second-requires-clause-kept : goal.split_seat-second-requires-clause-kept
split_seat-second-requires-clause-kept c =
    let o = c.in_ok-table.ensures.opening in
    let p = after_split 1 c.in_ok-table.field-0.seat.me c.split_seat-first.new.seat.me (search rules) (omega arith) (omega (arith, c.in_ok-table.ensures.count.0)) o in
    λ above. may_split 2 _ _ (search rules) p

pub returns-clause-operator : goal.returns-clause-operator
returns-clause-operator c =
    let o = c.in_ok-table.ensures.opening in
    let p = after_split 1 c.in_ok-table.field-0.seat.me c.split_seat-first.new.seat.me (search rules) (omega arith) (omega (arith, c.in_ok-table.ensures.count.0)) o in
    let q = after_split 2 c.split_seat-first.new.seat.me c.split_seat-second.new.seat.me (search rules) (omega arith) (search rules) p in
    opening_ends 3 _ _ (search rules) q
