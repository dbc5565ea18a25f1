-- What is there, and the pieces that are left, are all that there was to be.
use Rattle.std.proofs.Common.{◌≡◌, ◌++◌, drop, flat_map}
use Rattle.load_maker.proofs.packets.put.Given as goal

abbrev pub invariant-loop-piece : goal.invariant-loop-piece
invariant-loop-piece l = l.initial.out.items ++ flat_map (λ piece. piece.now) l.pieces ≡ l.out.items ++ flat_map (λ piece. piece.now) (drop l.piece-index l.pieces)
