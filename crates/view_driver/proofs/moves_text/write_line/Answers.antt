use Rattle.std.proofs.Common.{refl, ℕ, List, ◌++◌, ap, sym, codes}
use Rattle.view_driver.specs.MovesText.{filled_text, outcome_at}
use Rattle.fw_base.proofs.Texts.{starts}
use Rattle.rule_text.proofs.WriteSteps.{goes, breaks_off, finishes}
use Rattle.view_driver.specs.MovesText.{moved_line}
use Rattle.view_driver.proofs.moves_text.write_line.Goals as goal

pub returns-in_err-write_numbers : goal.returns-in_err-write_numbers
unfolding moved_line
returns-in_err-write_numbers g c =
    breaks_off _ _ _ (starts _ _) refl c.in_err-write_numbers.was c.write_numbers.ensures c.from_residual.ensures.1

pub returns-in_err-write_filled : goal.returns-in_err-write_filled
unfolding moved_line
returns-in_err-write_filled g c =
    let filled = ap (λ (t : List ℕ). filled_text c.args.width t ++ (codes "  " ++ (outcome_at c.args.texts.now c.args.told.now.is ++ codes "\n"))) (sym c.text_at.ensures) in
    breaks_off _ _ _ (goes _ (starts _ _)
    refl c.in_ok-write_numbers.was c.write_numbers.ensures)
    filled c.in_err-write_filled.was c.write_filled.ensures c.from_residual-in_err-write_filled.ensures.1

pub returns : goal.returns
unfolding moved_line
returns g c =
    let filled = ap (λ (t : List ℕ). filled_text c.args.width t ++ (codes "  " ++ (outcome_at c.args.texts.now c.args.told.now.is ++ codes "\n"))) (sym c.text_at.ensures) in
    finishes _ (goes _ (goes _ (starts _ _)
    refl c.in_ok-write_numbers.was c.write_numbers.ensures)
    filled c.in_ok-write_filled.was c.write_filled.ensures) refl (rw c.text_at-2.ensures at c.write_pieces.ensures)
