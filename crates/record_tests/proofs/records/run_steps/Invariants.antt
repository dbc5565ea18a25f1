use Rattle.record_tests.specs.OneLane.{IsOneLane}
use Rattle.record_tests.proofs.records.run_steps.Given as goal

abbrev pub invariant-loop-step : goal.invariant-loop-step
invariant-loop-step g l = IsOneLane l.live.world l.live.desk l.live.lane
