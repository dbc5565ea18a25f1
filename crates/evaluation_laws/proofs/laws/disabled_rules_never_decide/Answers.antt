use Rattle.evaluation_laws.proofs.Acting.{judges_are_acting}
use Rattle.evaluation_laws.proofs.laws.disabled_rules_never_decide.Goals as goal

pub returns : goal.returns
returns c = judges_are_acting
