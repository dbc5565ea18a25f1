use Rattle.std.proofs.Common.{rules, arith}
use Rattle.rm_lock.proofs.Marks.{revoking_one}
use Rattle.rm_lock.proofs.publishing.revoke_all.Goals as goal

pub loop-processor-preserved : goal.loop-processor-preserved
loop-processor-preserved g c = (
  search rules,
  search rules,
  search rules,
  revoking_one c.loop-processor.processor c.args.seat.now.me c.loop-processor.seat.me c.revoke.new.seat.me c.revoke.ensures.step (search rules) (let size = c.requires.size in let test = c.loop-processor-test.true in omega arith) c.loop-processor.invariant.3,
)
