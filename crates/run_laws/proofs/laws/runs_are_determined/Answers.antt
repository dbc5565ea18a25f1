use Rattle.run_laws.proofs.Determined.{runs_are_determined}
use Rattle.run_laws.proofs.laws.runs_are_determined.Goals as goal

pub returns : goal.returns
returns g c = runs_are_determined _ _
