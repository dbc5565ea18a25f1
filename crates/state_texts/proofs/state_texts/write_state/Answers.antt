use Rattle.std.proofs.Common.{refl}
use Rattle.fw_base.proofs.Texts.{starts}
use Rattle.rule_text.proofs.WriteSteps.{goes, breaks_off, finishes}
use Rattle.state_texts.specs.StateTexts.{state_line}
use Rattle.state_texts.proofs.state_texts.write_state.Goals as goal

pub returns-in_err-write_five_digits : goal.returns-in_err-write_five_digits
unfolding state_line
returns-in_err-write_five_digits g c = breaks_off _ _ _ (starts _ _) refl c.in_err-write_five_digits.was c.write_five_digits.ensures c.from_residual.ensures.1

pub returns-in_err-write_flow : goal.returns-in_err-write_flow
unfolding state_line
returns-in_err-write_flow g c =
    breaks_off _ _ _ (goes _ (starts _ _) refl c.in_ok-write_five_digits.was c.write_five_digits.ensures) refl c.in_err-write_flow.was c.write_flow.ensures c.from_residual-in_err-write_flow.ensures.1

pub returns : goal.returns
unfolding state_line
returns g c = finishes _ (goes _ (goes _ (starts _ _) refl c.in_ok-write_five_digits.was c.write_five_digits.ensures) refl c.in_ok-write_flow.was c.write_flow.ensures) refl c.write_expiry.ensures
