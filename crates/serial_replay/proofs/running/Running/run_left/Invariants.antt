use Rattle.std.proofs.Common.{◌≡◌, length}
use Rattle.serial_replay.specs.Running.{Keeps}
use Rattle.serial_schedule.specs.Steps.{steps_of}
use Rattle.serial_replay.proofs.running.Running.run_left.Given as goal

abbrev pub invariant-loop-line : goal.invariant-loop-line
invariant-loop-line g l = record {
  keeps : Keeps g.S.Source.left g.S.Source.faults l.initial.self l.self;
  tracks : l.self.tracks ≡ l.initial.self.tracks;
}

abbrev pub decreases-loop-line : goal.decreases-loop-line
decreases-loop-line g l = length (steps_of l.self.agenda)
