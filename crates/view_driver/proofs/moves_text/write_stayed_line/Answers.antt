use Rattle.std.proofs.Common.{refl}
use Rattle.fw_base.proofs.Texts.{starts}
use Rattle.rule_text.proofs.WriteSteps.{goes, breaks_off, finishes}
use Rattle.view_driver.specs.MovesText.{stayed_line}
use Rattle.view_driver.proofs.moves_text.write_stayed_line.Goals as goal

pub returns-in_err-write_numbers : goal.returns-in_err-write_numbers
unfolding stayed_line
returns-in_err-write_numbers g c = breaks_off _ _ _ (starts _ _) refl c.in_err-write_numbers.was c.write_numbers.ensures c.from_residual.ensures.1

pub returns : goal.returns
unfolding stayed_line
returns g c = finishes _ (goes _ (starts _ _) refl c.in_ok-write_numbers.was c.write_numbers.ensures) refl (rw c.text_at.ensures at c.write_pieces.ensures)
