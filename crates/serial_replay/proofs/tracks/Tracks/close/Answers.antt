use Rattle.std.proofs.Common.{map, ap, sym, ◌∙◌}
use Rattle.std.proofs.lemmas.Iterator.Adapters.{YieldsList-from_vec}
use Rattle.std.proofs.lemmas.Iterator.Consumers.{YieldsList-end}
use Rattle.capture_tracks.specs.Tracks.{end_of, source_at}
use Rattle.serial_replay.proofs.TrackLists.{map-itself}
use Rattle.serial_replay.proofs.tracks.Tracks.close.Goals as goal

pub returns-clause-sources : goal.returns-clause-sources
returns-clause-sources g c =
    let gives = c.into_iter-track-iterator.ensures.into_iter_gives in
    let list = YieldsList-from_vec c.self.inside.tracks.items gives.0 (gives.1 ∙ c.self.inside.tracks.ok.0) in
    let whole = YieldsList-end list c.loop-track.yielded c.loop-track.track-iterator c.loop-track.yielded_by c.next.result c.next.new.self c.in-None.is c.next.ensures.steps in
    c.loop-track.invariant.sources ∙ ap (map source_at) (sym (map-itself c.loop-track.yielded) ∙ whole.0 ∙ c.self.view_is)

pub returns-clause-ends : goal.returns-clause-ends
returns-clause-ends g c =
    let gives = c.into_iter-track-iterator.ensures.into_iter_gives in
    let list = YieldsList-from_vec c.self.inside.tracks.items gives.0 (gives.1 ∙ c.self.inside.tracks.ok.0) in
    let whole = YieldsList-end list c.loop-track.yielded c.loop-track.track-iterator c.loop-track.yielded_by c.next.result c.next.new.self c.in-None.is c.next.ensures.steps in
    c.loop-track.invariant.ends ∙ ap (map end_of) (sym (map-itself c.loop-track.yielded) ∙ whole.0 ∙ c.self.view_is)
