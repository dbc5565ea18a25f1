use Rattle.std.proofs.Common.{refl}
use Rattle.fw_base.proofs.Texts.{starts}
use Rattle.rule_text.proofs.WriteSteps.{goes, breaks_off, finishes}
use Rattle.view_driver.specs.ReviewText.{told_text}
use Rattle.view_driver.proofs.script_text.write_told.Goals as goal

pub returns-in_err-write_line_number : goal.returns-in_err-write_line_number
unfolding told_text
returns-in_err-write_line_number g c = breaks_off _ _ _ (starts _ _) refl c.in_err-write_line_number.was c.write_line_number.ensures c.from_residual.ensures.1

pub returns-in_err-write_pieces : goal.returns-in_err-write_pieces
unfolding told_text
returns-in_err-write_pieces g c =
    breaks_off _ _ _ (goes _ (starts _ _) refl c.in_ok-write_line_number.was c.write_line_number.ensures) refl c.in_err-write_pieces.was c.write_pieces.ensures c.from_residual-in_err-write_pieces.ensures.1

pub returns : goal.returns
unfolding told_text
returns g c = finishes _ (goes _ (goes _ (starts _ _) refl c.in_ok-write_line_number.was c.write_line_number.ensures) refl c.in_ok-write_pieces.was c.write_pieces.ensures) refl c.write_text.ensures
