use Rattle.std.proofs.Common.{rules}
use Rattle.rm_table.specs.Layout.{tracker_index}
use Rattle.rm_lock.proofs.Tries.{operates_on, waits_on}
use Rattle.rm_lock.proofs.waits.drain.Goals as goal

pub loop-preserved : goal.loop-preserved
loop-preserved g c =
    let step = c.in-NotOut.ensures.step in (
      search rules,
      operates_on (tracker_index c.args.processor) step.0 c.loop.seat.me c.drain.new.seat.me c.loop.invariant.1 step.2,
      waits_on (tracker_index c.args.processor) step.0 c.args.seat.now.me c.loop.seat.me c.drain.new.seat.me c.loop.invariant.2 step.2,
    )
