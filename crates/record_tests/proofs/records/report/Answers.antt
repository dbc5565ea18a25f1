use Rattle.record_tests.proofs.OneLane.{one_closes}
use Rattle.record_tests.proofs.records.report.Goals as goal

pub close-requires-clause-lanes : goal.close-requires-clause-lanes
close-requires-clause-lanes g c = one_closes c.args.live.world c.args.live.desk c.args.live.lane c.in_ok-vec.field-0.items c.requires c.in_ok-vec.ensures.items
