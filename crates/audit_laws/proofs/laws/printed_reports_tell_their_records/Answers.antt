use Rattle.audit_laws.proofs.Records.{reports_tell_records}
use Rattle.audit_laws.proofs.laws.printed_reports_tell_their_records.Goals as goal

pub returns : goal.returns
returns c = reports_tell_records
