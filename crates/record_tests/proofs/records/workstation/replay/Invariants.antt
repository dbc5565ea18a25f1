use Rattle.record_tests.specs.TwoLanes.{AreTwoLanes}
use Rattle.record_tests.proofs.records.workstation.replay.Given as goal

abbrev pub invariant-loop-passed : goal.invariant-loop-passed
invariant-loop-passed g l = AreTwoLanes l.pair.world l.pair.desk l.pair.first l.pair.second
