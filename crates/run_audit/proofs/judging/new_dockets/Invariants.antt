use Rattle.std.proofs.Common.{◌≡◌, ◌-◌, ◌++◌}
use Rattle.std.specs.Prelude.{replicate}
use Rattle.run_audit.specs.Audit.{no_docket}
use Rattle.run_audit.proofs.judging.new_dockets.Given as goal

abbrev pub invariant-loop : goal.invariant-loop
invariant-loop l = l.dockets.items ++ replicate (l.lanes - l.counter) no_docket ≡ replicate l.lanes no_docket
