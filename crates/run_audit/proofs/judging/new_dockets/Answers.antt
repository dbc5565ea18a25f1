use Rattle.run_audit.specs.Audit.{no_docket}
use Rattle.run_audit.proofs.Replicated.{one_more}
use Rattle.run_audit.proofs.judging.new_dockets.Goals as goal

pub loop-preserved : goal.loop-preserved
loop-preserved c =
    let less = c.loop-test.true in
    rw (c.in_ok-push.ensures.items, c.new.ensures) (one_more c.loop.dockets.items no_docket c.loop.counter c.args.lanes less c.loop.invariant)
