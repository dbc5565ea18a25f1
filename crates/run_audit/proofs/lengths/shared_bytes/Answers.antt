use Rattle.std.proofs.Common.{arith}
use Rattle.run_audit.proofs.Counts.{none_shared}
use Rattle.run_audit.proofs.lengths.shared_bytes.Goals as goal

pub returns-then-at-second-clause-value : goal.returns-then-at-second-clause-value
returns-then-at-second-clause-value c =
    omega (arith, c.loop-at.invariant.same, none_shared c.args.first.now c.args.second.now c.loop-at.at c.if-at-second.true)
