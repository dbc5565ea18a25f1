use Rattle.rm_core.proofs.Steps.{Safe-after}
use Rattle.rm_core.proofs.OneRun.{Safe-opening, Safe-after_all}
use Rattle.rm_core.proofs.laws.states_are_safe.Goals as goal

pub returns-clause-step : goal.returns-clause-step
returns-clause-step c = Safe-after

pub returns-clause-run : goal.returns-clause-run
returns-clause-run c = λ n number events may. Safe-after_all _ events (Safe-opening n number) may
