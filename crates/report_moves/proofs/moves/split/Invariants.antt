-- What moved and what stayed so far.
use Rattle.std.proofs.Common.{take}
use Rattle.report_moves.specs.Moves.{IsSplit}
use Rattle.report_moves.proofs.moves.split.Given as goal

abbrev pub invariant-loop-told : goal.invariant-loop-told
invariant-loop-told l = IsSplit (take l.told-index l.moves) l.moved.items l.stayed.items
