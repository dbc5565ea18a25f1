use Rattle.std.specs.Prelude.{[]}
use Rattle.run_audit.proofs.Replicated.{one_more}
use Rattle.run_audit.proofs.judging.new_tallies.Goals as goal

pub loop-preserved : goal.loop-preserved
loop-preserved c =
    let less = c.loop-test.true in
    rw (c.in_ok-push.ensures.items, c.new.ensures) (one_more c.loop.tallies.items [] c.loop.counter c.args.lanes less c.loop.invariant)
