use Rattle.std.proofs.Common.{rules}
use Rattle.rm_table.proofs.Resting.{after_split, may_split}
use Rattle.lock_bench.proofs.worker.Worker.all.Goals as goal

pub loop-place-preserved : goal.loop-place-preserved
loop-place-preserved c = (
  search rules,
  search rules,
  search rules,
  search rules,
  after_split c.loop-place.place c.loop-place.operator.me c.split_seat-seat.new.seat.me (c.split_seat-seat.ensures.left (search rules)) (search rules) (search rules) (search rules),
)

pub split_seat-seat-requires-clause-kept : goal.split_seat-seat-requires-clause-kept
split_seat-seat-requires-clause-kept c = λ above. may_split c.loop-place.place c.loop-place.operator.me.0 c.loop-place.operator.me.1 (search rules) c.loop-place.invariant.4
