use Rattle.std.proofs.Common.{◌<◌, length, refl, sym, subst}
use Rattle.std.specs.Prelude.{slice_set}
use Rattle.serial_replay.specs.Tracks.{GoesFurtherAt}
use Rattle.serial_replay.proofs.TrackLists.{moments-set, further-at}
use Rattle.serial_replay.proofs.tracks.Tracks.advance.Goals as goal

pub invariant_of-self : goal.invariant_of-self
invariant_of-self g c =
    moments-set c.self.inside.tracks.items c.self.inside.moments.items c.args.capture c.advance.new.self c.held_moment.result c.self.invariant c.held_moment.ensures

pub returns : goal.returns
returns g c =
    let within : c.args.capture < length c.self.inside.tracks.items = subst (λ tracks. c.args.capture < length tracks) (sym c.self.view_is) c.requires in
    subst (λ old. GoesFurtherAt g.S.Source.left g.S.Source.faults c.args.capture old (slice_set c.self.inside.tracks.items c.args.capture c.advance.new.self)) c.self.view_is
    (further-at g.S.Source.left g.S.Source.faults c.self.inside.tracks.items _ c.args.capture c.index_mut-track.result.now c.advance.new.self within c.index_mut-track.ensures.value refl c.advance.ensures)
