use Rattle.std.proofs.Common.{◌∙◌, ap, refl}
use Rattle.std.specs.Fmt.{decimal}
use Rattle.fw_base.proofs.Texts.{starts}
use Rattle.rule_text.proofs.WriteSteps.{goes, breaks_off, finishes}
use Rattle.view_driver.specs.FlowsText.{rest_line}
use Rattle.view_driver.proofs.flows_text.write_rest_line.Goals as goal

pub returns-in_err-write_spaces : goal.returns-in_err-write_spaces
unfolding rest_line
returns-in_err-write_spaces g c = breaks_off _ _ _ (starts _ _) refl c.in_err-write_spaces.was c.write_spaces.ensures c.from_residual.ensures.1

pub returns : goal.returns
unfolding rest_line
returns g c =
    let flows = c.as_bytes-flows.ensures.value ∙ c.format.ensures.text in
    let records = c.as_bytes-records.ensures.value ∙ c.format-2.ensures.text ∙ ap decimal c.records_of.ensures in
    finishes _ (goes _ (starts _ _) refl c.in_ok-write_spaces.was c.write_spaces.ensures) refl (rw (flows, records) at c.write_pieces.ensures)
