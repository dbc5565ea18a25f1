use Rattle.std.proofs.Common.{sym, subst}
use Rattle.fw_command.specs.declared.script.Step.{Step}
use Rattle.live_replay.specs.Operating.{RunsLines, lines_of_step}
use Rattle.live_replay.proofs.Lines.{runs_none}
use Rattle.live_replay.proofs.operator.Operator.run_step.Goals as goal

pub returns-in-After : goal.returns-in-After
returns-in-After g c = subst (λ (step : Step). RunsLines c.args.self c.args.self (lines_of_step step)) (sym c.in-After.is) (runs_none c.args.self)
