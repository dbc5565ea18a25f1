use Rattle.std.proofs.Common.{[]}
use Rattle.std.proofs.lemmas.Result.{err_from_is_err_and}
use Rattle.fw_base.proofs.Texts.{goes_on_with, breaks_in, flat_map-drop}
use Rattle.report_page.specs.Pieces.{piece_text, page_text}
use Rattle.report_page.specs.declared.pieces.Piece.TheVariants.{Markup}
use Rattle.report_page.proofs.pieces.write_page.Goals as goal

pub returns-in_err-write_piece : goal.returns-in_err-write_piece
unfolding page_text
returns-in_err-write_piece g c =
    let (error, is, same) = err_from_is_err_and c.from_residual.result c.from_residual.ensures.1 in
    let next = flat_map-drop piece_text c.args.pieces.now c.loop-piece.piece-index (Markup (record { ref_ptr = (0, 0); now = [] })) c.loop-piece-test.true in
    rw is (breaks_in _ _ _ _ _ _ _ error (rw next at c.loop-piece.invariant) c.in_err-write_piece.ensures)

pub loop-piece-preserved : goal.loop-piece-preserved
loop-piece-preserved g c =
    let next = flat_map-drop piece_text c.args.pieces.now c.loop-piece.piece-index (Markup (record { ref_ptr = (0, 0); now = [] })) c.loop-piece-test.true in
    goes_on_with _ _ _ _ _ _ _ (rw next at c.loop-piece.invariant) c.in_ok-write_piece.ensures
