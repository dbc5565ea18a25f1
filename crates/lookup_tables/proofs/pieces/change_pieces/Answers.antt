use Rattle.lookup_tables.proofs.Cuts.{change_division}
use Rattle.lookup_tables.proofs.pieces.change_pieces.Goals as goal

pub returns-clause-division : goal.returns-clause-division
returns-clause-division c = λ h. change_division _ _ _ _ _ c.loop-place.invariant h
