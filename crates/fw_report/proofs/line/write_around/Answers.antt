use Rattle.std.proofs.Common.{refl}
use Rattle.fw_base.proofs.Texts.{starts}
use Rattle.rule_text.proofs.WriteSteps.{goes, breaks_off, finishes}
use Rattle.fw_report.proofs.line.write_around.Goals as goal

pub returns-in_err-write : goal.returns-in_err-write
returns-in_err-write g c = breaks_off _ _ _ (starts _ _) refl c.in_err-write.was c.write.ensures c.from_residual.ensures.1

pub returns-in_err-write_text : goal.returns-in_err-write_text
returns-in_err-write_text g c = breaks_off _ _ _ (goes _ (starts _ _) refl c.in_ok-write.was c.write.ensures) refl c.in_err-write_text.was c.write_text.ensures c.from_residual-in_err-write_text.ensures.1

pub returns : goal.returns
returns g c = finishes _ (goes _ (goes _ (starts _ _) refl c.in_ok-write.was c.write.ensures) refl c.in_ok-write_text.was c.write_text.ensures) refl c.write-2.ensures
