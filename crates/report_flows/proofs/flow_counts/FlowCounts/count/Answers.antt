use Rattle.report_flows.proofs.DerivedFlows.{derived_is}
use Rattle.report_flows.proofs.FlowSteps.{counts_flow}
use Rattle.report_flows.proofs.flow_counts.FlowCounts.count.Goals as goal

pub returns : goal.returns
returns c =
    let e = c.in_ok-insert.ensures in
    let counted = counts_flow _ derived_is c.self.inside.spans c.insert.new.self c.args.flow c.args.number c.span_at.result c.in_ok-insert.field-0
    c.one_more-span.result c.span_at.ensures c.one_more-span.ensures e.updates e.old e.entries
    in
    rw (← c.self.view_is) (record { counted = counted })
