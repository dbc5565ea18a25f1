use Rattle.audit_laws.proofs.KeptForms.{forms_are_kept}
use Rattle.audit_laws.proofs.laws.forms_are_kept.Goals as goal

pub returns : goal.returns
returns g = forms_are_kept
