use Rattle.audit_laws.proofs.Faultless.{reports_are_faultless}
use Rattle.audit_laws.proofs.laws.printed_reports_are_faultless.Goals as goal

pub returns : goal.returns
returns c = reports_are_faultless
