use Rattle.std.proofs.Common.{◌≡◌, ◌∷◌, ◌∙◌, ap, subst}
use Rattle.fw_command.specs.declared.script.Step.TheVariants.{After}
use Rattle.serial_schedule.proofs.Passing.{Passes, passes-after}
use Rattle.serial_schedule.proofs.agenda.Agenda.next_due.Goals as goal

pub loop-step-preserved : goal.loop-step-preserved
loop-step-preserved c =
    let is : c.loop-step.self.steps.now ≡ After c.in-After.count ∷ c.in-Some.rest.now = c.in-Some.ensures.cases.0 ∙ ap (λ step. step ∷ c.in-Some.rest.now) c.in-After.is in
    passes-after _ _ _ _ (subst (Passes c.args.taken c.args.self.now.steps.now) is c.loop-step.invariant) c.if-count-taken.false
