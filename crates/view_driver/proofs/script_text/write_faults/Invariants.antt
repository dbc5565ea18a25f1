-- The faults so far were written.
use Rattle.std.proofs.Common.{drop, flat_map}
use Rattle.fw_base.proofs.Texts.{IsUnderWay}
use Rattle.view_driver.specs.ReviewText.{fault_text}
use Rattle.view_driver.proofs.script_text.write_faults.Given as goal

abbrev pub invariant-loop-fault : goal.invariant-loop-fault
invariant-loop-fault g l =
    IsUnderWay (g.K.Sink.state l.initial.out) (g.K.Sink.state l.out) (flat_map fault_text l.faults) (flat_map fault_text (drop l.fault-index l.faults))
