-- What was counted for the moves so far is told.
use Rattle.report_flows.proofs.ToldSteps.{ToldSoFar}
use Rattle.report_flows.proofs.told_flows.tell_all.Given as goal

abbrev pub invariant-loop-flows : goal.invariant-loop-flows
invariant-loop-flows l = ToldSoFar l.counts l.flows-index l.told.items
