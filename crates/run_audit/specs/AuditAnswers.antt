-- What a call of an audit answers.
use Rattle.std.specs.Prelude.{Option, None, Some, Result, Ok, Err}
use Rattle.run_audit.specs.declared.audit_fault.AuditFault.{AuditFault}

-- the fault, if one came
abbrev pub answer_of : Option AuditFault → Result (Unit {0}) AuditFault
answer_of None = Ok tt
answer_of (Some fault) = Err fault
