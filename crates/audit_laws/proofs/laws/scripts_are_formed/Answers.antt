use Rattle.audit_laws.proofs.ScriptForms.{scripts_are_formed}
use Rattle.audit_laws.proofs.laws.scripts_are_formed.Goals as goal

pub returns : goal.returns
returns g = scripts_are_formed
