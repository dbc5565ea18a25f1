use Rattle.audit_laws.proofs.Nothing.{reports_leave_nothing}
use Rattle.audit_laws.proofs.laws.printed_reports_leave_nothing.Goals as goal

pub returns : goal.returns
returns c = reports_leave_nothing
