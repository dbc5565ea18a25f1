use Rattle.std.proofs.Common.{◌++◌, ℕ, ap, sym}
use Rattle.fw_base.proofs.Texts.{starts}
use Rattle.rule_text.proofs.WriteSteps.{goes, breaks_off, finishes}
use Rattle.fw_base.specs.Addr.{address_text}
use Rattle.report_texts.specs.AnswerText.{address_line, length_text}
use Rattle.fw_report.proofs.answer_lines.write_address_line.Goals as goal

pub returns-in_err-write_address : goal.returns-in_err-write_address
unfolding address_line
returns-in_err-write_address g c = breaks_off _ _ (length_text c.args.entry.now.0.bits c.args.entry.now.1) (starts _ _) (ap (λ (a : ℕ). address_text a ++ length_text c.args.entry.now.0.bits c.args.entry.now.1) (sym c.address.ensures)) c.in_err-write_address.was c.write_address.ensures c.from_residual.ensures.1

pub returns : goal.returns
unfolding address_line
returns g c = finishes _ (goes (length_text c.args.entry.now.0.bits c.args.entry.now.1) (starts _ _) (ap (λ (a : ℕ). address_text a ++ length_text c.args.entry.now.0.bits c.args.entry.now.1) (sym c.address.ensures)) c.in_ok-write_address.was c.write_address.ensures) (ap (λ (b : ℕ). length_text b c.args.entry.now.1) (sym c.length.ensures.value)) c.write_length.ensures
