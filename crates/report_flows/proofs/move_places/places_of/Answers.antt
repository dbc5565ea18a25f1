use Rattle.report_flows.proofs.MovePlaces.{place_elsewhere, place_here}
use Rattle.report_flows.proofs.move_places.places_of.Goals.{then-told-capture+in_ok-insert, else-told-capture}
use Rattle.std.specs.HashMap.{get}
use Rattle.report_moves.specs.Spans.{pair_eq}
use Rattle.report_flows.proofs.move_places.places_of.Goals as goal

pub loop-at-preserved : goal.loop-at-preserved
loop-at-preserved c = λ pair. elim c.if-told-capture.branch [
  | then-told-capture+in_ok-insert w ↦
      rw w.places-is (place_here c.args.moves.now c.args.capture c.loop-at.at pair c.loop-at.places w.insert.new.self w.if-told-capture.true
      w.in_ok-insert.ensures.updates (c.loop-at.invariant pair))
  | else-told-capture w ↦
      rw w.places-is (place_elsewhere c.args.moves.now c.args.capture c.loop-at.at pair (get pair_eq c.loop-at.places pair) w.if-told-capture.false
      (c.loop-at.invariant pair))
]
