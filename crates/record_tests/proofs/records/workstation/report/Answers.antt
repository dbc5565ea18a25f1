use Rattle.record_tests.proofs.TwoLanes.{two_close}
use Rattle.record_tests.proofs.records.workstation.report.Goals as goal

pub close-requires-clause-lanes : goal.close-requires-clause-lanes
close-requires-clause-lanes g c = two_close c.args.pair.world c.args.pair.desk c.args.pair.first c.args.pair.second c.in_ok-vec.field-0.items c.requires c.in_ok-vec.ensures.items
