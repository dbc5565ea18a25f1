use Rattle.std.proofs.Common.{rules}
use Rattle.rm_table.proofs.Writes.{joined_all}
use Rattle.lock_tests.proofs.table_rows.ends.check_ends.Goals as goal

pub close-requires-clause-joined : goal.close-requires-clause-joined
close-requires-clause-joined g c = joined_all c.one_section_each.new.operator.me.0 c.one_section_each.new.operator.me.1 (search rules) c.one_section_each.ensures.rejoined
