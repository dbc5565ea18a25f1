use Rattle.record_tests.proofs.TwoLanes.{first_judged}
use Rattle.record_tests.proofs.records.workstation.judge_first.Goals as goal

pub returns : goal.returns
returns c = first_judged _ _ _ _ _ _ c.requires c.in_ok-first.ensures.of_world c.in_ok-first.ensures.place c.in_ok-first.ensures.cacheless c.in_ok-first.ensures.world
