use Rattle.load_laws.proofs.Acceptance.{scripts_accepted}
use Rattle.load_laws.proofs.laws.made_scripts_are_accepted.Goals as goal

pub returns : goal.returns
returns c = scripts_accepted
