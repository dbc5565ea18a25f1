use Rattle.std.proofs.Common.{refl}
use Rattle.fw_base.proofs.Texts.{starts}
use Rattle.rule_text.proofs.WriteSteps.{goes, breaks_off, finishes}
use Rattle.view_driver.specs.ReviewText.{fault_text}
use Rattle.view_driver.proofs.script_text.write_fault.Goals as goal

pub returns-in_err-write_place : goal.returns-in_err-write_place
unfolding fault_text
returns-in_err-write_place g c = breaks_off _ _ _ (starts _ _) refl c.in_err-write_place.was c.write_place.ensures c.from_residual.ensures.1

pub returns-in_err-write_line : goal.returns-in_err-write_line
unfolding fault_text
returns-in_err-write_line g c =
    breaks_off _ _ _ (goes _ (starts _ _) refl c.in_ok-write_place.was c.write_place.ensures) refl c.in_err-write_line.was c.write_line.ensures c.from_residual-in_err-write_line.ensures.1

pub returns-in_err-write_text : goal.returns-in_err-write_text
unfolding fault_text
returns-in_err-write_text g c =
    let line = goes _ (goes _ (starts _ _) refl c.in_ok-write_place.was c.write_place.ensures) refl c.in_ok-write_line.was c.write_line.ensures in
    breaks_off _ _ _ line refl c.in_err-write_text.was c.write_text.ensures c.from_residual-in_err-write_text.ensures.1

pub returns : goal.returns
unfolding fault_text
returns g c =
    let line = goes _ (goes _ (starts _ _) refl c.in_ok-write_place.was c.write_place.ensures) refl c.in_ok-write_line.was c.write_line.ensures in
    finishes _ (goes _ line refl c.in_ok-write_text.was c.write_text.ensures) refl c.write_mark.ensures
