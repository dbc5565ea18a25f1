use Rattle.std.proofs.Common.{rules}
use Rattle.rm_table.proofs.Writes.{join_one}
use Rattle.lock_tests.proofs.table_rows.publication.refused_processor_regains_the_published_number.Goals as goal

pub close-requires-clause-joined : goal.close-requires-clause-joined
close-requires-clause-joined g c = join_one c.publish_next.new.operator.me c.join_seat.new.into.me c.regain_after_refusal.new.seat.me.0 (c.join_seat.ensures.both c.publish_next.ensures.at_rest.operator.role) (search rules) c.publish_next.ensures.same.0 c.publish_next.ensures.at_rest
