use Rattle.std.proofs.Common.{ℕ, [], ap, ◌∙◌, slice_index_or, arith}
use Rattle.std.proofs.lemmas.Result.{err_from_is_err_and}
use Rattle.fw_base.proofs.Texts.{goes_on_with, breaks_in, ends}
use Rattle.view_driver.proofs.TextSteps.{next_move, no_move, some_move}
use Rattle.view_driver.proofs.moves_text.write_moves.Goals as goal

pub returns-in_err-write_move : goal.returns-in_err-write_move
returns-in_err-write_move g c =
    let (error, is, same) = err_from_is_err_and c.from_residual.result c.from_residual.ensures.1 in
    let next = next_move c.args.texts.now c.args.width c.args.moves.now c.args.flows.now c.loop-told.told-index some_move c.loop-told-test.true in
    let here = c.flows_at.ensures ∙ ap (λ (n : ℕ). slice_index_or c.args.flows.now n []) c.loop-told.invariant.number in
    rw is (breaks_in _ _ _ _ _ _ _ error (rw next at c.loop-told.invariant.written) (rw here at c.in_err-write_move.ensures))

pub loop-told-preserved : goal.loop-told-preserved
loop-told-preserved g c =
    let next = next_move c.args.texts.now c.args.width c.args.moves.now c.args.flows.now c.loop-told.told-index some_move c.loop-told-test.true in
    let here = c.flows_at.ensures ∙ ap (λ (n : ℕ). slice_index_or c.args.flows.now n []) c.loop-told.invariant.number in
    record {
      number = omega (arith, c.loop-told.invariant.number);
      written = goes_on_with _ _ _ _ _ _ _ (rw next at c.loop-told.invariant.written) (rw here at c.in_ok-write_move.ensures);
    }

pub returns : goal.returns
returns g c = ends _ _ _ _ _ c.loop-told.invariant.written (no_move c.args.texts.now c.args.width c.args.moves.now _ c.loop-told.told-index c.loop-told-test.false)
