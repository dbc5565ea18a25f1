use Rattle.std.proofs.Common.{◌+◌, drop}
use Rattle.rule_text.specs.Pieces.{pieces_text}
use Rattle.rule_text.proofs.WriteSteps.{goes, breaks_off}
use Rattle.rule_text.proofs.WriteSteps.{pieces_text-drop}
use Rattle.rule_text.proofs.writing.write_pieces.Goals as goal

pub returns-in_err-write_piece : goal.returns-in_err-write_piece
returns-in_err-write_piece g c =
    breaks_off _ _ (pieces_text (drop (c.loop-piece.piece-index + 1) c.args.pieces.now)) c.loop-piece.invariant (pieces_text-drop _ _ _ c.loop-piece-test.true) c.in_err-write_piece.was c.write_piece.ensures c.from_residual.ensures.1

pub loop-piece-preserved : goal.loop-piece-preserved
loop-piece-preserved g c = goes _ c.loop-piece.invariant (pieces_text-drop _ _ _ c.loop-piece-test.true) c.in_ok-write_piece.was c.write_piece.ensures
