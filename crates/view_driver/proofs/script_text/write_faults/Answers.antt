use Rattle.std.proofs.Common.{◌+◌, drop, flat_map}
use Rattle.fw_base.proofs.Texts.{flat_map-drop}
use Rattle.rule_text.proofs.WriteSteps.{goes, breaks_off}
use Rattle.view_driver.specs.ReviewText.{fault_text}
use Rattle.view_driver.proofs.ReviewLaws.{some_fault}
use Rattle.view_driver.proofs.script_text.write_faults.Goals as goal

pub returns-in_err-write_fault : goal.returns-in_err-write_fault
returns-in_err-write_fault g c =
    let next = flat_map-drop fault_text c.args.faults.now c.loop-fault.fault-index some_fault c.loop-fault-test.true in
    breaks_off _ _ (flat_map fault_text (drop (c.loop-fault.fault-index + 1) c.args.faults.now)) c.loop-fault.invariant next c.in_err-write_fault.was c.write_fault.ensures c.from_residual.ensures.1

pub loop-fault-preserved : goal.loop-fault-preserved
loop-fault-preserved g c =
    let next = flat_map-drop fault_text c.args.faults.now c.loop-fault.fault-index some_fault c.loop-fault-test.true in
    goes (flat_map fault_text (drop (c.loop-fault.fault-index + 1) c.args.faults.now)) c.loop-fault.invariant next c.in_ok-write_fault.was c.write_fault.ensures
