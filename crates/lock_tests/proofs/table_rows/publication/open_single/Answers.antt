use Rattle.std.proofs.Common.{rules, arith}
use Rattle.rm_table.proofs.Resting.{after_split, opening_ends}
use Rattle.lock_tests.proofs.table_rows.publication.open_single.Goals as goal

pub returns-clause-operator : goal.returns-clause-operator
returns-clause-operator c =
    let o = c.in_ok-table.ensures.opening in
    let p = after_split 1 c.in_ok-table.field-0.seat.me c.split_seat-processor.new.seat.me (search rules) (omega arith) (omega (arith, c.in_ok-table.ensures.count.0)) o in
    opening_ends 2 _ _ (search rules) p
