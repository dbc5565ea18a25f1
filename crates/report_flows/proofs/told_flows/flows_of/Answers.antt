use Rattle.report_flows.proofs.Flows.{flows_told}
use Rattle.report_flows.proofs.told_flows.flows_of.Goals as goal

pub returns-clause-flows : goal.returns-clause-flows
returns-clause-flows g c =
    flows_told g.S.Source.left g.S.Source.faults c.args.captures.items c.args.old.now c.args.new.now c.args.moves.now c.in_ok-counts.counts.items
    c.in_ok-tell_all.field-0.items c.requires.lengths c.requires.told c.in_ok-counts.ensures.counted (rw c.deref.ensures.value at c.in_ok-tell_all.ensures)
