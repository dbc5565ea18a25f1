use Rattle.std.proofs.Common.{◌≡◌, List, [], ◌∷◌, length, refl, sym, subst, ◌∙◌, arith}
use Rattle.std.specs.List.{AllByRecursion}
use Rattle.fw_command.specs.Steps.{all_lines}
use Rattle.fw_command.specs.WellFormed.{IsStepInRange}
use Rattle.fw_command.specs.declared.script.Step.{Step}
use Rattle.live_replay.specs.Operating.{RunsLines}
use Rattle.live_replay.specs.declared.operator.Operator.{Operator}
use Rattle.live_replay.proofs.Lines.{runs_none, runs_step}
use Rattle.live_replay.proofs.operator.Operator.run_all.Goals as goal

pub loop-step-init : goal.loop-step-init
loop-step-init g c = record { desk = record { world = refl; lanes = refl }; formed = c.requires.formed; goes = λ last runs. runs }

formed_of : (steps : List Step) (step : Step) (behind : List Step) → steps ≡ step ∷ behind → AllByRecursion IsStepInRange steps → AllByRecursion IsStepInRange (step ∷ behind)
formed_of steps step behind is formed = subst (λ (s : List Step). AllByRecursion IsStepInRange s) is formed

pub run_step-requires-clause-formed : goal.run_step-requires-clause-formed
run_step-requires-clause-formed g c = (formed_of c.loop-step.rest.now c.in-Some.step.now c.in-Some.behind.now c.in-Some.ensures.cases.0 c.loop-step.invariant.formed).0

pub run_step-requires-clause-desk : goal.run_step-requires-clause-desk
run_step-requires-clause-desk g c = c.loop-step.invariant.desk.world ∙ c.requires.desk

pub loop-step-preserved : goal.loop-step-preserved
loop-step-preserved g c =
    let runs = c.in_ok-operator.ensures in
    record {
      desk = record { world = runs.desk.world ∙ c.loop-step.invariant.desk.world; lanes = runs.desk.lanes ∙ c.loop-step.invariant.desk.lanes };
      formed = (formed_of c.loop-step.rest.now c.in-Some.step.now c.in-Some.behind.now c.in-Some.ensures.cases.0 c.loop-step.invariant.formed).1;
      goes = λ last more. c.loop-step.invariant.goes last (subst (λ (s : List Step). RunsLines c.loop-step.operator last (all_lines s)) (sym c.in-Some.ensures.cases.0)
          (runs_step c.loop-step.operator c.in_ok-operator.operator last c.in-Some.step.now c.in-Some.behind.now runs more));
    }

none_left : (operator : Operator) (rest : List Step) → length rest ≡ 0 → RunsLines operator operator (all_lines rest)
none_left operator [] none = runs_none operator
none_left operator (step ∷ rest) none = absurd (omega arith)

pub returns : goal.returns
returns g c = c.loop-step.invariant.goes c.loop-step.operator (none_left c.loop-step.operator c.loop-step.rest.now c.in_default.ensures.cases)
