use Rattle.evaluation_laws.proofs.Acting.{hits_are_of_acting}
use Rattle.evaluation_laws.proofs.laws.disabled_rules_never_act.Goals as goal

pub returns : goal.returns
returns c = hits_are_of_acting
