use Rattle.std.proofs.Common.{sym, ◌∙◌}
use Rattle.fw_base.proofs.Texts.{starts, ends}
use Rattle.rule_text.proofs.ElementTexts.{network6_text-split, length-written, length-unwritten}
use Rattle.rule_text.proofs.WriteSteps.{goes, breaks_off, finishes}
use Rattle.rule_text.proofs.address6_text.write_prefix6.Goals as goal

pub returns-in_err-write_address6 : goal.returns-in_err-write_address6
returns-in_err-write_address6 g c =
    breaks_off _ _ _ (starts _ _) (network6_text-split c.args.prefix _ c.address.ensures) c.in_err-write_address6.was c.write_address6.ensures c.from_residual.ensures.1

pub returns-then-bits : goal.returns-then-bits
returns-then-bits g c =
    ends _ _ _ _ _ (goes _ (starts _ _) (network6_text-split c.args.prefix _ c.address.ensures) c.in_ok-write_address6.was c.write_address6.ensures)
    (length-unwritten 128 c.args.prefix.bits c.length-bits.result c.length-bits.ensures.value c.if-bits.true)

pub returns : goal.returns
returns g c =
    finishes _ (goes _ (starts _ _) (network6_text-split c.args.prefix _ c.address.ensures) c.in_ok-write_address6.was c.write_address6.ensures)
    (length-written 128 c.args.prefix.bits c.from.result (c.from.ensures ∙ c.length-bits.ensures.value) (λ e. c.if-bits.false (sym c.from.ensures ∙ e))) c.write_pieces.ensures
