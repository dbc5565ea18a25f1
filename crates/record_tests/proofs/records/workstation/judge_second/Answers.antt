use Rattle.record_tests.proofs.TwoLanes.{second_judged}
use Rattle.record_tests.proofs.records.workstation.judge_second.Goals as goal

pub returns : goal.returns
returns c = second_judged _ _ _ _ _ _ c.requires c.in_ok-second.ensures.of_world c.in_ok-second.ensures.place c.in_ok-second.ensures.cacheless c.in_ok-second.ensures.world
