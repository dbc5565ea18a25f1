use Rattle.std.proofs.Common.{sym, ◌∙◌}
use Rattle.fw_base.proofs.Texts.{starts}
use Rattle.rule_text.proofs.ElementTexts.{network_text-split, length-written}
use Rattle.rule_text.proofs.WriteSteps.{goes, breaks_off, finishes}
use Rattle.rule_text.proofs.elements.write_prefix.Goals as goal

pub returns-in_err-write_address : goal.returns-in_err-write_address
returns-in_err-write_address g c =
    breaks_off _ _ _ (starts _ _) (network_text-split c.args.prefix _ c.address.ensures) c.in_err-write_address.was c.write_address.ensures c.from_residual.ensures.1

pub returns : goal.returns
returns g c = finishes _ (goes _ (starts _ _) (network_text-split c.args.prefix _ c.address.ensures) c.in_ok-write_address.was c.write_address.ensures) (length-written 32 c.args.prefix.bits c.from.result (c.from.ensures ∙ c.length-bits.ensures.value) (λ e. c.if-bits-eq32.false (sym c.from.ensures ∙ e))) c.write_pieces.ensures
