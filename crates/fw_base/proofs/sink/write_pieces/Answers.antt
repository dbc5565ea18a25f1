use Rattle.std.proofs.Common.{ℕ, List, []}
use Rattle.std.specs.Borrow.{Bor}
use Rattle.std.proofs.lemmas.Result.{err_from_is_err_and}
use Rattle.fw_base.proofs.Texts.{goes_on_with, breaks_in, flat_map-drop}
use Rattle.fw_base.proofs.sink.write_pieces.Goals as goal

pub returns-in_err-write_text : goal.returns-in_err-write_text
returns-in_err-write_text g c =
    let (error, is, same) = err_from_is_err_and c.from_residual.result c.from_residual.ensures.1 in
    let none : Bor (List ℕ) = record { ref_ptr = (0, 0); now = [] } in
    let next = flat_map-drop (λ (piece : Bor (List ℕ)). piece.now) c.args.pieces.now c.loop-piece.piece-index none c.loop-piece-test.true in
    rw is (breaks_in _ _ _ _ _ _ _ error (rw next at c.loop-piece.invariant) c.in_err-write_text.ensures)

pub loop-piece-preserved : goal.loop-piece-preserved
loop-piece-preserved g c =
    let none : Bor (List ℕ) = record { ref_ptr = (0, 0); now = [] } in
    let next = flat_map-drop (λ (piece : Bor (List ℕ)). piece.now) c.args.pieces.now c.loop-piece.piece-index none c.loop-piece-test.true in
    goes_on_with _ _ _ _ _ _ _ (rw next at c.loop-piece.invariant) c.in_ok-write_text.ensures
