use Rattle.std.proofs.Common.{refl, ℕ, ◌++◌, ap, sym, codes, replicate}
use Rattle.fw_base.proofs.Texts.{starts}
use Rattle.rule_text.proofs.WriteSteps.{goes, breaks_off, finishes}
use Rattle.view_driver.specs.MovesText.{moved_heading}
use Rattle.view_driver.proofs.moves_text.write_moved_heading.Goals as goal

pub returns-in_err-write_text : goal.returns-in_err-write_text
unfolding moved_heading
returns-in_err-write_text g c =
    breaks_off _ _ _ (starts _ _) refl c.in_err-write_text.was c.write_text.ensures c.from_residual.ensures.1

pub returns-in_err-write_spaces : goal.returns-in_err-write_spaces
unfolding moved_heading
returns-in_err-write_spaces g c =
    let spaced = ap (λ (n : ℕ). replicate {A = ℕ} n 32 ++ codes "  now\n") (sym c.saturating_sub.ensures) in
    breaks_off _ _ _ (goes _ (starts _ _)
    refl c.in_ok-write_text.was c.write_text.ensures)
    spaced c.in_err-write_spaces.was c.write_spaces.ensures c.from_residual-in_err-write_spaces.ensures.1

pub returns : goal.returns
unfolding moved_heading
returns g c =
    let spaced = ap (λ (n : ℕ). replicate {A = ℕ} n 32 ++ codes "  now\n") (sym c.saturating_sub.ensures) in
    finishes _ (goes _ (goes _ (starts _ _) refl c.in_ok-write_text.was c.write_text.ensures) spaced c.in_ok-write_spaces.was c.write_spaces.ensures) refl c.write_text-2.ensures
