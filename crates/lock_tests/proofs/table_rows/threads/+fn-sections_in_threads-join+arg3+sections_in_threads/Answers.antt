use Rattle.std.proofs.Common.{rules, ◌+◌}
use Rattle.rm_table.proofs.Resting.{after_split, may_join, after_join}
use Rattle.lock_tests.proofs.table_rows.threads.+fn-sections_in_threads-join+arg3+sections_in_threads.Goals as goal

pub join-seat-requires-after_bounds : goal.join-seat-requires-after_bounds
join-seat-requires-after_bounds g t c κs within =
    let o = after_split c.args.place c.args.operator.me c.split_seat-seat.new.seat.me (c.split_seat-seat.ensures.left (search rules)) (search rules) (search rules) c.requires.opening in
    ((search rules, search rules, search rules), (search rules, ((λ a member. member), ((search rules, search rules, o, search rules, search rules, search rules, search rules), search rules))))

pub returns-clause-rejoined : goal.returns-clause-rejoined
returns-clause-rejoined g t c = after_join c.args.place c.join-seat.result.1.me c.join_seat.new.into.me c.join-seat.result.0.me.0 (c.join_seat.ensures.both (may_join (c.args.place + 1) c.join-seat.result.1.me.0 c.join-seat.result.1.me.1 (search rules)).0) (search rules) (search rules) (search rules)
