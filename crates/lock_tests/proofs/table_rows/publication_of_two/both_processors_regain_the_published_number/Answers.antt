use Rattle.std.proofs.Common.{rules}
use Rattle.rm_table.proofs.Writes.{join_two}
use Rattle.lock_tests.proofs.table_rows.publication_of_two.both_processors_regain_the_published_number.Goals as goal

pub close-requires-clause-joined : goal.close-requires-clause-joined
close-requires-clause-joined g c = join_two c.publish_both.new.operator.me c.join_seat.new.into.me c.join_seat-2.new.into.me c.regain_after_refusal-2.new.seat.me.0 c.regain_after_refusal.new.seat.me.0 (c.join_seat.ensures.both c.publish_both.ensures.at_rest.operator.role) (c.join_seat-2.ensures.both (search rules)) (search rules) (search rules) c.publish_both.ensures.same.0 c.publish_both.ensures.at_rest
