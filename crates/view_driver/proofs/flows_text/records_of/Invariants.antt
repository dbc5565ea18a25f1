-- The records of the flows so far.
use Rattle.std.proofs.Common.{◌≡◌, take}
use Rattle.view_driver.specs.FlowsText.{flow_records}
use Rattle.view_driver.proofs.flows_text.records_of.Given as goal

abbrev pub invariant-loop-told : goal.invariant-loop-told
invariant-loop-told l = l.records ≡ flow_records (take l.told-index l.flows)
