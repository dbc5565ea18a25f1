-- The moves of the captures so far.
use Rattle.report_moves.proofs.Once.{SoFar}
use Rattle.report_moves.proofs.moves.all_moves.Given as goal

abbrev pub invariant-loop-at : goal.invariant-loop-at
invariant-loop-at l = SoFar l.old l.new l.at l.moves.items
