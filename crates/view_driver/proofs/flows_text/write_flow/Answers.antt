use Rattle.std.proofs.Common.{refl}
use Rattle.fw_base.proofs.Texts.{starts}
use Rattle.rule_text.proofs.WriteSteps.{goes, breaks_off, finishes}
use Rattle.view_driver.specs.FlowsText.{flow_line}
use Rattle.view_driver.proofs.flows_text.write_flow.Goals as goal

pub returns-in_err-write_flow_numbers : goal.returns-in_err-write_flow_numbers
unfolding flow_line
returns-in_err-write_flow_numbers g c = breaks_off _ _ _ (starts _ _) refl c.in_err-write_flow_numbers.was c.write_flow_numbers.ensures c.from_residual.ensures.1

pub returns-in_err-write_any_flow : goal.returns-in_err-write_any_flow
unfolding flow_line
returns-in_err-write_any_flow g c =
    breaks_off _ _ _ (goes _ (starts _ _)
    refl c.in_ok-write_flow_numbers.was c.write_flow_numbers.ensures)
    refl c.in_err-write_any_flow.was c.write_any_flow.ensures c.from_residual-in_err-write_any_flow.ensures.1

pub returns : goal.returns
unfolding flow_line
returns g c =
    finishes _ (goes _ (goes _ (starts _ _)
    refl c.in_ok-write_flow_numbers.was c.write_flow_numbers.ensures)
    refl c.in_ok-write_any_flow.was c.write_any_flow.ensures) refl c.write_text.ensures
