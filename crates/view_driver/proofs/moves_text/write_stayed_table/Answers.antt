use Rattle.std.proofs.Common.{refl}
use Rattle.fw_base.proofs.Texts.{starts}
use Rattle.rule_text.proofs.WriteSteps.{goes, breaks_off, finishes}
use Rattle.view_driver.specs.MovesText.{stayed_table}
use Rattle.view_driver.proofs.moves_text.write_stayed_table.Goals as goal

pub returns-in_err-write_text : goal.returns-in_err-write_text
unfolding stayed_table
returns-in_err-write_text g c = breaks_off _ _ _ (starts _ _) refl c.in_err-write_text.was c.write_text.ensures c.from_residual.ensures.1

pub returns : goal.returns
unfolding stayed_table
returns g c = finishes _ (goes _ (starts _ _) refl c.in_ok-write_text.was c.write_text.ensures) refl c.write_stayed_lines.ensures
