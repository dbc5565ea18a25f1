use Rattle.std.proofs.Common.{[], List, map, subst, ap, sym, ◌∙◌}
use Rattle.std.proofs.lemmas.Iterator.Adapters.{YieldsList-from_vec}
use Rattle.std.proofs.lemmas.Iterator.Consumers.{YieldsList-end}
use Rattle.std.specs.Option.{option_map}
use Rattle.capture_tracks.specs.Tracks.{held_record_of}
use Rattle.serial_replay.specs.Tracks.{BeginAll}
use Rattle.capture_tracks.specs.declared.track.Track.{Track}
use Rattle.serial_schedule.specs.Order.{moment_of}
use Rattle.serial_replay.proofs.TrackLists.{begin-none, begin-push, moments-push, map-itself}
use Rattle.serial_replay.proofs.tracks.Tracks.open.Goals as goal

pub loop-opened-init : goal.loop-opened-init
loop-opened-init g c = record {
  begun = subst (BeginAll g.S.Source.left g.S.Source.faults c.args.limit []) (sym c.in_ok-tracks.ensures.items) (begin-none g.S.Source.left g.S.Source.faults c.args.limit);
  moments = c.in_ok-moments.ensures.items ∙ ap (λ (ts : List (Track g.row.S.Denot)). map (option_map moment_of) (map held_record_of ts)) (sym c.in_ok-tracks.ensures.items);
}

pub loop-opened-preserved : goal.loop-opened-preserved
loop-opened-preserved g c = record {
  begun = subst (BeginAll g.S.Source.left g.S.Source.faults c.args.limit _) (sym c.in_ok-push-2.ensures.items)
      (begin-push g.S.Source.left g.S.Source.faults c.args.limit c.loop-opened.yielded c.loop-opened.tracks.items c.in-Some.opened c.in_ok-track.track c.loop-opened.invariant.begun c.in_ok-track.ensures);
  moments = moments-push c.loop-opened.tracks.items c.in_ok-track.track _ _ c.loop-opened.invariant.moments c.held_moment.ensures (c.in_ok-push.ensures.items) ∙ ap (λ (ts : List (Track g.row.S.Denot)). map (option_map moment_of) (map held_record_of ts)) (sym c.in_ok-push-2.ensures.items);
}

pub returns : goal.returns
returns g c =
    let gives = c.into_iter-opened-iterator.ensures.into_iter_gives in
    let list = YieldsList-from_vec c.args.captures.items gives.0 (gives.1 ∙ c.args.captures.ok.0) in
    let whole = YieldsList-end list c.loop-opened.yielded c.loop-opened.opened-iterator c.loop-opened.yielded_by c.next.result c.next.new.self c.in-None.is c.next.ensures.steps in
    subst (λ captures. BeginAll g.S.Source.left g.S.Source.faults c.args.limit captures c.loop-opened.tracks.items) (sym (map-itself c.loop-opened.yielded) ∙ whole.0) c.loop-opened.invariant.begun
