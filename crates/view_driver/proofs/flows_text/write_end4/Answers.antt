use Rattle.std.proofs.Common.{◌∙◌, refl}
use Rattle.fw_base.proofs.Texts.{starts}
use Rattle.rule_text.proofs.WriteSteps.{goes, breaks_off, finishes}
use Rattle.view_driver.proofs.flows_text.write_end4.Goals as goal

pub returns-in_err-write_text : goal.returns-in_err-write_text
returns-in_err-write_text g c = breaks_off _ _ _ (starts _ _) refl c.in_err-write_text.was c.write_text.ensures c.from_residual.ensures.1

pub returns-in_err-write_address : goal.returns-in_err-write_address
returns-in_err-write_address g c =
    breaks_off _ _ _ (goes _ (starts _ _)
    refl c.in_ok-write_text.was c.write_text.ensures)
    refl c.in_err-write_address.was c.write_address.ensures c.from_residual-in_err-write_address.ensures.1

pub returns : goal.returns
returns g c =
    let port = c.as_bytes.ensures.value ∙ c.format.ensures.text in
    finishes _ (goes _ (goes _ (starts _ _)
    refl c.in_ok-write_text.was c.write_text.ensures)
    refl c.in_ok-write_address.was c.write_address.ensures) refl (rw port at c.write_pieces.ensures)
