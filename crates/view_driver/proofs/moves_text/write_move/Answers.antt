use Rattle.std.proofs.Common.{refl}
use Rattle.fw_base.proofs.Texts.{starts}
use Rattle.rule_text.proofs.WriteSteps.{goes, breaks_off, finishes}
use Rattle.view_driver.specs.MovesText.{moved_text}
use Rattle.view_driver.proofs.moves_text.write_move.Goals as goal

pub returns-in_err-write_line : goal.returns-in_err-write_line
unfolding moved_text
returns-in_err-write_line g c = breaks_off _ _ _ (starts _ _) refl c.in_err-write_line.was c.write_line.ensures c.from_residual.ensures.1

pub returns : goal.returns
unfolding moved_text
returns g c = finishes _ (goes _ (starts _ _) refl c.in_ok-write_line.was c.write_line.ensures) refl c.write_flows.ensures
