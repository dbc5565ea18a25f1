-- The pieces so far were appended, and the count never fell.
use Rattle.std.proofs.Common.{flat_map, drop, ℕ, List}
use Rattle.std.specs.Borrow.{Bor}
use Rattle.fw_base.proofs.Texts.{IsUnderWay}
use Rattle.fw_base.proofs.sink.write_pieces.Given as goal

abbrev pub invariant-loop-piece : goal.invariant-loop-piece
invariant-loop-piece g l = IsUnderWay (g.K.Sink.state l.initial.out) (g.K.Sink.state l.out)
    (flat_map (λ (piece : Bor (List ℕ)). piece.now) l.pieces) (flat_map (λ (piece : Bor (List ℕ)). piece.now) (drop l.piece-index l.pieces))
