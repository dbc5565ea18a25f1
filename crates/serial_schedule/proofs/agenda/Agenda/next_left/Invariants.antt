use Rattle.std.proofs.Common.{length}
use Rattle.serial_schedule.proofs.Passing.{PassesAll}
use Rattle.serial_schedule.proofs.agenda.Agenda.next_left.Given as goal

abbrev pub invariant-loop-step : goal.invariant-loop-step
invariant-loop-step l = PassesAll l.initial.self.steps.now l.self.steps.now

abbrev pub decreases-loop-step : goal.decreases-loop-step
decreases-loop-step l = length l.self.steps.now
