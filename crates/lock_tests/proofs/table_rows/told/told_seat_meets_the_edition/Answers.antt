use Rattle.std.proofs.Common.{rules, ap, ◌∙◌}
use Rattle.rm_table.proofs.Writes.{join_one}
use Rattle.lock_tests.proofs.table_rows.told.told_seat_meets_the_edition.Goals as goal

pub close-requires-clause-joined : goal.close-requires-clause-joined
close-requires-clause-joined g c =
    join_one c.tell-2.new.operator.me c.join_seat.new.into.me c.regain_after_refusal.new.seat.me.0 (c.join_seat.ensures.both c.tell-2.ensures.at_rest.operator.role) (search rules) (ap (λ s. s.0.count) c.tell-2.ensures.operator ∙ c.publish_next.ensures.same.0) c.tell-2.ensures.at_rest
