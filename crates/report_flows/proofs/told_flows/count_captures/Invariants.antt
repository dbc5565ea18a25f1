-- The captures so far are counted.
use Rattle.report_flows.proofs.CapturesSteps.{CountedSoFar}
use Rattle.report_flows.proofs.told_flows.count_captures.Given as goal

abbrev pub invariant-loop-source : goal.invariant-loop-source
invariant-loop-source g l = CountedSoFar g.S.Source.left g.S.Source.faults l.old l.new l.moves l.yielded l.at l.counts.items
