use Rattle.capture_tracks.proofs.Beginnings.{begins-open}
use Rattle.capture_tracks.proofs.track.Track.open.Goals as goal

pub returns-in-Ok : goal.returns-in-Ok
returns-in-Ok g c = begins-open g.S.Source.left g.S.Source.faults c.args.limit c.args.opened c.in-Ok.capture _ c.requires.most c.in-Ok.ensures c.advance.ensures
