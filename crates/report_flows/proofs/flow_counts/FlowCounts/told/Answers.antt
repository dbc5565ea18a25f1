use Rattle.std.proofs.Common.{rules}
use Rattle.std.proofs.lemmas.List.Sorted.{answers_always}
use Rattle.report_flows.specs.declared.flow_counts.FlowSpan.{FlowSpan}
use Rattle.report_flows.proofs.FlowSteps.{are_told}
use Rattle.report_flows.proofs.flow_counts.FlowCounts.told.Goals as goal

pub returns : goal.returns
returns c =
    let made = c.in_ok-told.ensures in
    let order = c.in_ok-sort_by_key.ensures.sorted (λ (flow : FlowSpan). (record { 0 = flow.span.records }, flow.span.first)) (answers_always _ _ _ (λ f a r g h. search rules)) in
    rw (← c.self.view_is) (
    are_told c.self.inside.spans.entries c.in_ok-told.told.items c.sort_by_key.new.self.items made.entries c.in_ok-sort_by_key.ensures.permutation made.found
    made.unique order
    )
