-- What was met so far, and that some work is left; each record takes up room of the track.
use Rattle.capture_tracks.specs.Tracks.{room_of}
use Rattle.live_replay.specs.Work.{HasWork, TakesMore}
use Rattle.live_replay.proofs.task.take_all.Given as goal

abbrev pub invariant-loop-taken : goal.invariant-loop-taken
invariant-loop-taken g l = record {
  takes : TakesMore g.S.Source.left g.S.Source.faults l.world l.fn.post (record { track = l.track; lane = l.lane });
  work : HasWork g.S.Source.left g.S.Source.faults l.world (record { track = l.track; lane = l.lane });
}

abbrev pub decreases-loop-taken : goal.decreases-loop-taken
decreases-loop-taken g l = room_of l.track
