-- The steps that are left go on from what those so far came to.
use Rattle.std.proofs.Common.{◌≡◌, drop}
use Rattle.capture_tracks.specs.Commands.{Standing, after_lines}
use Rattle.capture_tracks.specs.Operator.{OperatorStandsFor}
use Rattle.fw_command.specs.Steps.{all_lines}
use Rattle.rule_chain.specs.Configuration.{Configuration}
use Rattle.run_audit.proofs.publisher.Publisher.run_lines.Given as goal

abbrev pub invariant-loop-step : goal.invariant-loop-step
invariant-loop-step l =
    (first : Configuration) (standing : Standing) → OperatorStandsFor first standing l.fn.self
    → (so_far : Standing) × OperatorStandsFor first so_far l.self × (after_lines so_far (all_lines (drop l.step-index l.steps)) ≡ after_lines standing (all_lines l.steps))
