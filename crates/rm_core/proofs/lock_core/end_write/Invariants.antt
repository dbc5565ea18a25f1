use Rattle.std.proofs.Common.{◌≡◌, ◌++◌, map, take, drop}
use Rattle.rm_core.specs.CoreState.{with_flags_cleared}
use Rattle.rm_core.proofs.lock_core.end_write.Given as goal

-- those before the index have left both sets
abbrev pub invariant-loop-processor : goal.invariant-loop-processor
invariant-loop-processor l =
    l.processor-items ≡ map with_flags_cleared (take l.processor-index l.fn.processors) ++ drop l.processor-index l.fn.processors
