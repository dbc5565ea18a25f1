-- Which line an audit finds wrong.
use Rattle.std.specs.Prelude.{◌≡◌, ℕ, Option, Some}
use Rattle.run_audit.specs.declared.audit_fault.AuditFault.{AuditFault}
use Rattle.run_audit.specs.declared.audit_fault.AuditFault.TheVariants.{Wrong, OutOfMemory}

-- a fact of the line that a fault names, if it names one: want of memory names none
abbrev pub IfWrong : AuditFault → (ℕ → Type 0) → Type 0
IfWrong (Wrong line) P = P line
IfWrong OutOfMemory P = Unit {0}

-- a fault names the first line that is wrong, or memory ran out
abbrev pub NamesLine : Option ℕ → AuditFault → Type 0
NamesLine first fault = IfWrong fault (λ line. first ≡ Some line)
