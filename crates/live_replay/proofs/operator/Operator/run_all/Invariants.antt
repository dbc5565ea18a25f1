-- What comes of the lines that are left comes of all lines.
use Rattle.std.proofs.Common.{length}
use Rattle.std.specs.List.{AllByRecursion}
use Rattle.fw_command.specs.Steps.{all_lines}
use Rattle.fw_command.specs.WellFormed.{IsStepInRange}
use Rattle.live_replay.specs.Operating.{KeepsDesk, RunsLines}
use Rattle.live_replay.specs.declared.operator.Operator.{Operator}
use Rattle.live_replay.proofs.operator.Operator.run_all.Given as goal

abbrev pub invariant-loop-step : goal.invariant-loop-step
invariant-loop-step g l = record {
  desk : KeepsDesk l.fn.self l.operator;
  formed : AllByRecursion IsStepInRange l.rest;
  goes : (last : Operator) → RunsLines l.operator last (all_lines l.rest) → RunsLines l.fn.self last (all_lines l.fn.steps);
}

abbrev pub decreases-loop-step : goal.decreases-loop-step
decreases-loop-step g l = length l.rest
