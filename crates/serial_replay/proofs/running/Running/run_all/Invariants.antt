use Rattle.serial_replay.specs.Running.{Keeps}
use Rattle.serial_replay.specs.Tracks.{rooms_of}
use Rattle.serial_replay.proofs.running.Running.run_all.Given as goal

abbrev pub invariant-loop-capture : goal.invariant-loop-capture
invariant-loop-capture g l = Keeps g.S.Source.left g.S.Source.faults l.initial.self l.self

abbrev pub decreases-loop-capture : goal.decreases-loop-capture
decreases-loop-capture g l = rooms_of l.self.tracks
