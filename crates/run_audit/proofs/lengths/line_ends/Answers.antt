use Rattle.std.proofs.Common.{◌∙◌, arith}
use Rattle.run_audit.proofs.Counts.{counted_on, none_left}
use Rattle.run_audit.proofs.lengths.line_ends.Goals as goal

pub loop-byte-preserved : goal.loop-byte-preserved
loop-byte-preserved c =
    let told = c.from-count.ensures in
    let (on, low) = counted_on c.args.text.now c.loop-byte.byte-index c.loop-byte.count c.from-count.result c.loop-byte-test.true (λ is. rw is at told) (λ other. rw other at told) in
    record { counted = on ∙ c.loop-byte.invariant.counted; low = omega (arith, low, c.loop-byte.invariant.low) }

pub returns-clause-value : goal.returns-clause-value
returns-clause-value c = omega (arith, c.loop-byte.invariant.counted, none_left c.args.text.now c.loop-byte.byte-index c.loop-byte-test.false)
