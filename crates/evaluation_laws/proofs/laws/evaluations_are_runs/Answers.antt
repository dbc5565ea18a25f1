use Rattle.std.proofs.Common.{◌∙◌, sym}
use Rattle.evaluation_laws.proofs.Sound.{runs_are_evaluations}
use Rattle.evaluation_laws.proofs.Total.{each_reaches}
use Rattle.evaluation_laws.proofs.laws.evaluations_are_runs.Goals as goal

pub returns : goal.returns
returns c = λ q replies evaluated lawful. (
  λ is. is.told ∙ runs_are_evaluations q replies is.story lawful.ordered is.runs,
  λ same.
      let reached = each_reaches q replies lawful.ordered in
      record { story = reached.story; runs = reached.runs; told = same ∙ sym (runs_are_evaluations q replies reached.story lawful.ordered reached.runs) },
)
