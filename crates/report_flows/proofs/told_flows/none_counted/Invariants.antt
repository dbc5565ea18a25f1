-- Nothing is counted for the moves so far.
use Rattle.report_flows.specs.Counting.{IsNoneCounted}
use Rattle.report_flows.proofs.told_flows.none_counted.Given as goal

abbrev pub invariant-loop : goal.invariant-loop
invariant-loop l = IsNoneCounted l.counter l.counts.items
