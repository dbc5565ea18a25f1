use Rattle.std.proofs.Common.{refl}
use Rattle.rm_core.specs.CoreState.{with_flags_cleared, idle}
use Rattle.rm_core.proofs.Changes.{map-more_read}
use Rattle.rm_core.proofs.lock_core.end_write.Goals as goal

pub loop-processor-preserved : goal.loop-processor-preserved
loop-processor-preserved c =
    map-more_read with_flags_cleared c.args.processors.now c.loop-processor.processor-items c.loop-processor.processor-index _ idle
    c.loop-processor-test.true c.loop-processor.invariant c.loop-processor.auto.processor-items refl
