use Rattle.std.proofs.Common.{[], ◌∷◌, ◌∙◌, subst, arith}
use Rattle.capture_tracks.specs.Commands.{Standing, after_lines}
use Rattle.capture_tracks.specs.Operator.{OperatorStandsFor}
use Rattle.fw_command.specs.Steps.{all_lines}
use Rattle.run_audit.proofs.Publishing.{step_on, steps_over}
use Rattle.run_audit.proofs.publisher.Publisher.run_lines.Goals as goal

pub loop-step-preserved : goal.loop-step-preserved
loop-step-preserved c = λ first standing stands.
    let (so_far, now, same) = c.loop-step.invariant first standing stands in (
      after_lines so_far (all_lines (c.step-item.result ∷ [])),
      c.in_ok-run_step.ensures first so_far now,
      step_on c.args.steps.now c.loop-step.step-index c.step-item.result so_far _ c.loop-step-test.true c.step-item.is same,
    )

pub returns : goal.returns
returns c = λ first standing stands.
    let (so_far, now, same) = c.loop-step.invariant first standing stands in
    subst (λ (s : Standing). OperatorStandsFor first s c.loop-step.self) (steps_over c.args.steps.now c.loop-step.step-index so_far (omega (arith, c.loop-step-test.false)) ∙ same) now
