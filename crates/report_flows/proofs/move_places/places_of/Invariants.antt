-- Where the moves so far stand.
use Rattle.std.proofs.Common.{ℕ}
use Rattle.std.specs.HashMap.{get}
use Rattle.report_moves.specs.Spans.{pair_eq}
use Rattle.report_flows.proofs.MovePlaces.{IsPlaceBelow}
use Rattle.report_flows.proofs.move_places.places_of.Given as goal

abbrev pub invariant-loop-at : goal.invariant-loop-at
invariant-loop-at l = (pair : ℕ × ℕ) → IsPlaceBelow l.moves l.capture l.at pair (get pair_eq l.places pair)
