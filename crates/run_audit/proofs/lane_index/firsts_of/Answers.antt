use Rattle.run_audit.proofs.BehindSteps.{firsts_more}
use Rattle.run_audit.proofs.lane_index.firsts_of.Goals as goal

pub loop-one-preserved : goal.loop-one-preserved
loop-one-preserved c = firsts_more c.loop-one.firsts.items _ c.args.lanes.now c.loop-one.one-index _ c.loop-one-test.true c.loop-one.invariant c.in_ok-keep_first.ensures
