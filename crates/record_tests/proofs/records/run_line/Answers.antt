use Rattle.record_tests.proofs.OneLane.{committed}
use Rattle.record_tests.proofs.records.run_line.Goals as goal

pub returns : goal.returns
returns c = committed _ _ _ _ _ _ c.commit-desk.result.1 c.requires.one c.commit-desk.ensures.published c.commit-desk.ensures.unchanged c.commit-desk.ensures.desk
