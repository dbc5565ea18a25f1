use Rattle.std.proofs.Common.{◌≡◌, ◌-◌, ◌++◌}
use Rattle.std.specs.Prelude.{replicate}
use Rattle.std.specs.Prelude.{[]}
use Rattle.run_audit.proofs.judging.new_tallies.Given as goal

abbrev pub invariant-loop : goal.invariant-loop
invariant-loop l = l.tallies.items ++ replicate (l.lanes - l.counter) [] ≡ replicate l.lanes []
