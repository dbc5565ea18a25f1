use Rattle.lookup_tables.specs.Change.{AreChanged}
use Rattle.lookup_tables.proofs.pieces.change_pieces.Given as goal

abbrev pub invariant-loop-place : goal.invariant-loop-place
invariant-loop-place l = AreChanged l.change l.initial.pieces.items l.pieces.items l.start l.place
