use Rattle.std.proofs.Common.{refl}
use Rattle.fw_base.proofs.Texts.{starts}
use Rattle.rule_text.proofs.WriteSteps.{goes, breaks_off, finishes}
use Rattle.view_driver.specs.FlowsText.{flow_numbers}
use Rattle.view_driver.proofs.flows_text.write_flow_numbers.Goals as goal

pub returns-in_err-write_number : goal.returns-in_err-write_number
unfolding flow_numbers
returns-in_err-write_number g c = breaks_off _ _ _ (starts _ _) refl c.in_err-write_number.was c.write_number.ensures c.from_residual.ensures.1

pub returns-in_err-write_spaces : goal.returns-in_err-write_spaces
unfolding flow_numbers
returns-in_err-write_spaces g c =
    breaks_off _ _ _ (goes _ (starts _ _)
    refl c.in_ok-write_number.was c.write_number.ensures)
    refl c.in_err-write_spaces.was c.write_spaces.ensures c.from_residual-in_err-write_spaces.ensures.1

pub returns-in_err-write_number-2 : goal.returns-in_err-write_number-2
unfolding flow_numbers
returns-in_err-write_number-2 g c =
    breaks_off _ _ _ (goes _ (goes _ (starts _ _)
    refl c.in_ok-write_number.was c.write_number.ensures)
    refl c.in_ok-write_spaces.was c.write_spaces.ensures)
    refl c.in_err-write_number-2.was c.write_number-2.ensures c.from_residual-in_err-write_number-2.ensures.1

pub returns-in_err-write_number-3 : goal.returns-in_err-write_number-3
unfolding flow_numbers
returns-in_err-write_number-3 g c =
    breaks_off _ _ _ (goes _ (goes _ (goes _ (starts _ _)
    refl c.in_ok-write_number.was c.write_number.ensures)
    refl c.in_ok-write_spaces.was c.write_spaces.ensures)
    refl c.in_ok-write_number-2.was c.write_number-2.ensures)
    refl c.in_err-write_number-3.was c.write_number-3.ensures c.from_residual-in_err-write_number-3.ensures.1

pub returns : goal.returns
unfolding flow_numbers
returns g c =
    finishes _ (goes _ (goes _ (goes _ (goes _ (starts _ _)
    refl c.in_ok-write_number.was c.write_number.ensures)
    refl c.in_ok-write_spaces.was c.write_spaces.ensures)
    refl c.in_ok-write_number-2.was c.write_number-2.ensures)
    refl c.in_ok-write_number-3.was c.write_number-3.ensures) refl c.write_text.ensures
