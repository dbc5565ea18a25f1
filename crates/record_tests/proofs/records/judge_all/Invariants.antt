use Rattle.record_tests.specs.OneLane.{IsOneLane}
use Rattle.record_tests.proofs.records.judge_all.Given as goal

abbrev pub invariant-loop-second : goal.invariant-loop-second
invariant-loop-second g l = IsOneLane l.live.world l.live.desk l.live.lane
