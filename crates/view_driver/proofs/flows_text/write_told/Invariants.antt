-- The lines so far were written.
use Rattle.std.proofs.Common.{drop, flat_map}
use Rattle.fw_base.proofs.Texts.{IsUnderWay}
use Rattle.view_driver.specs.FlowsText.{flow_line}
use Rattle.view_driver.proofs.flows_text.write_told.Given as goal

abbrev pub invariant-loop-flow : goal.invariant-loop-flow
invariant-loop-flow g l =
    IsUnderWay (g.K.Sink.state l.initial.out) (g.K.Sink.state l.out) (flat_map flow_line l.flows) (flat_map flow_line (drop l.flow-index l.flows))
