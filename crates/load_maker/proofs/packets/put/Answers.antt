use Rattle.load_maker.proofs.Pieces.{room_for_next}
use Rattle.load_maker.proofs.packets.put.Goals as goal

pub unwrap-requires : goal.unwrap-requires
unwrap-requires c =
    c.try_extend_from_slice.ensures.variant.1
    (room_for_next (λ piece. piece.now) c.args.pieces.now c.loop-piece.piece-index _ _ c.args.out.now.items c.loop-piece.out.items c.loop-piece-test.true c.loop-piece.invariant c.requires)
