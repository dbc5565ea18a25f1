use Rattle.std.proofs.Common.{◌≡◌, ◌∷◌, ◌∙◌, ap, subst}
use Rattle.fw_command.specs.declared.script.Step.TheVariants.{After}
use Rattle.serial_schedule.proofs.Passing.{PassesAll, passes_all-after}
use Rattle.serial_schedule.proofs.agenda.Agenda.next_left.Goals as goal

pub loop-step-preserved : goal.loop-step-preserved
loop-step-preserved c =
    let is : c.loop-step.self.steps.now ≡ After c.in-After.field-0 ∷ c.in-Some.rest.now = c.in-Some.ensures.cases.0 ∙ ap (λ step. step ∷ c.in-Some.rest.now) c.in-After.is in
    passes_all-after _ _ _ (subst (PassesAll c.args.self.now.steps.now) is c.loop-step.invariant)
