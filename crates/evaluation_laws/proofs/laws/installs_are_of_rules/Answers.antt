use Rattle.evaluation_laws.proofs.Acting.{installs_are_of_rules}
use Rattle.evaluation_laws.proofs.laws.installs_are_of_rules.Goals as goal

pub returns : goal.returns
returns c = installs_are_of_rules
