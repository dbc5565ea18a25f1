use Rattle.audit_laws.proofs.Opening.{reports_open}
use Rattle.audit_laws.proofs.laws.printed_reports_open.Goals as goal

pub returns : goal.returns
returns c = reports_open
