use Rattle.std.proofs.Common.{refl, ℕ, ap, sym, replicate}
use Rattle.fw_base.proofs.Texts.{starts}
use Rattle.rule_text.proofs.WriteSteps.{goes, breaks_off, finishes}
use Rattle.view_driver.specs.MovesText.{filled_text}
use Rattle.view_driver.proofs.moves_text.write_filled.Goals as goal

pub returns-in_err-write_text : goal.returns-in_err-write_text
unfolding filled_text
returns-in_err-write_text g c =
    breaks_off _ _ _ (starts _ _) refl c.in_err-write_text.was c.write_text.ensures c.from_residual.ensures.1

pub returns : goal.returns
unfolding filled_text
returns g c =
    let count = ap (λ (n : ℕ). replicate n 32) (sym c.saturating_sub.ensures) in
    finishes _ (goes _ (starts _ _) refl c.in_ok-write_text.was c.write_text.ensures) count c.write_spaces.ensures
