use Rattle.std.proofs.Common.{rules, ◌+◌}
use Rattle.rm_table.proofs.Resting.{after_split, may_join, after_join}
use Rattle.lock_tests.proofs.table_rows.ends.+one_section_each.Goals as goal

pub one_section_each-requires : goal.one_section_each-requires
one_section_each-requires g n c lives within = (
  search rules,
  (
    search rules,
    (
      search rules,
      (
        after_split c.args.place c.args.operator.now.me c.split_seat-seat.new.seat.me (c.split_seat-seat.ensures.left (search rules)) (search rules) (search rules) c.requires.opening,
        (search rules, (search rules, (search rules, search rules))),
      ),
    ),
  ),
)

pub returns-clause-rejoined : goal.returns-clause-rejoined
returns-clause-rejoined g n c = after_join c.args.place c.one_section_each.new.operator.me c.join_seat.new.into.me c.section.new.seat.me.0 (c.join_seat.ensures.both (may_join (c.args.place + 1) c.one_section_each.new.operator.me.0 c.one_section_each.new.operator.me.1 c.one_section_each.ensures.rejoined).0) (search rules) (search rules) c.one_section_each.ensures.rejoined
