use Rattle.std.proofs.Common.{refl}
use Rattle.fw_base.proofs.Texts.{starts}
use Rattle.rule_text.proofs.WriteSteps.{goes, breaks_off, finishes}
use Rattle.view_driver.specs.ReviewText.{found_text}
use Rattle.view_driver.proofs.script_text.write_found.Goals as goal

pub returns-in_err-write_faults : goal.returns-in_err-write_faults
unfolding found_text
returns-in_err-write_faults g c = breaks_off _ _ _ (starts _ _) refl c.in_err-write_faults.was c.write_faults.ensures c.from_residual.ensures.1

pub returns : goal.returns
unfolding found_text
returns g c = finishes _ (goes _ (starts _ _) refl c.in_ok-write_faults.was c.write_faults.ensures) refl c.write_findings.ensures
