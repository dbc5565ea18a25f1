use Rattle.capture_tracks.proofs.Beginnings.{begins-refused}
use Rattle.capture_tracks.proofs.track.refused_track.Goals as goal

pub returns : goal.returns
returns g c = begins-refused g.S.Source.left g.S.Source.faults c.args.refused c.faults-count.result c.in_default.not-OutOfMemory c.faults-count.ensures
