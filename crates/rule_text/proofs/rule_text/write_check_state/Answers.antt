use Rattle.std.proofs.Common.{refl, ap}
use Rattle.std.specs.Prelude.{Option, ℕ, List}
use Rattle.fw_base.proofs.Texts.{starts}
use Rattle.rule_text.specs.Canonical.{spaced_text, looked_up_words}
use Rattle.rule_text.proofs.WriteSteps.{goes, breaks_off, finishes}
use Rattle.rule_text.proofs.rule_text.write_check_state.Goals as goal

pub returns-in_err-write_text : goal.returns-in_err-write_text
returns-in_err-write_text g c = breaks_off _ _ _ (starts _ _) refl c.in_err-write_text.was c.write_text.ensures c.from_residual.ensures.1

pub returns-in-None : goal.returns-in-None
returns-in-None g c = finishes _ (goes _ (starts _ _) refl c.in_ok-write_text.was c.write_text.ensures) (ap (λ (n : Option (List ℕ)). spaced_text (looked_up_words n)) c.in-None.is) c.write_text-in-None.ensures

pub returns-in-Some : goal.returns-in-Some
returns-in-Some g c = finishes _ (goes _ (starts _ _) refl c.in_ok-write_text.was c.write_text.ensures) (ap (λ (n : Option (List ℕ)). spaced_text (looked_up_words n)) c.in-Some.is) c.write_flow_name.ensures
