use Rattle.std.proofs.lemmas.Result.{err_from_is_err_and}
use Rattle.fw_base.proofs.Texts.{flat_map-drop, goes_on_with, breaks_in}
use Rattle.view_driver.specs.FlowsText.{flow_line}
use Rattle.view_driver.proofs.TextSteps.{some_flow}
use Rattle.view_driver.proofs.flows_text.write_told.Goals as goal

pub returns-in_err-write_flow : goal.returns-in_err-write_flow
returns-in_err-write_flow g c =
    let next = flat_map-drop flow_line c.args.flows.now c.loop-flow.flow-index some_flow c.loop-flow-test.true in
    let (error, is, same) = err_from_is_err_and c.from_residual.result c.from_residual.ensures.1 in
    rw is (breaks_in _ _ _ _ _ _ _ error (rw next at c.loop-flow.invariant) c.in_err-write_flow.ensures)

pub loop-flow-preserved : goal.loop-flow-preserved
loop-flow-preserved g c =
    let next = flat_map-drop flow_line c.args.flows.now c.loop-flow.flow-index some_flow c.loop-flow-test.true in
    goes_on_with _ _ _ _ _ _ _ (rw next at c.loop-flow.invariant) c.in_ok-write_flow.ensures
