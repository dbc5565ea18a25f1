use Rattle.audit_laws.proofs.PrintableRecords.{records_are_reported}
use Rattle.audit_laws.proofs.laws.records_are_reported.Goals as goal

pub returns : goal.returns
returns g c = records_are_reported _ _
