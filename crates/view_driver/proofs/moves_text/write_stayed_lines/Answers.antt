use Rattle.std.proofs.lemmas.Result.{err_from_is_err_and}
use Rattle.fw_base.proofs.Texts.{flat_map-drop, goes_on_with, breaks_in}
use Rattle.view_driver.specs.MovesText.{stayed_line}
use Rattle.view_driver.proofs.TextSteps.{some_move}
use Rattle.view_driver.proofs.moves_text.write_stayed_lines.Goals as goal

pub returns-in_err-write_stayed_line : goal.returns-in_err-write_stayed_line
returns-in_err-write_stayed_line g c =
    let next = flat_map-drop (stayed_line c.args.texts.now) c.args.stayed.now c.loop-told.told-index some_move c.loop-told-test.true in
    let (error, is, same) = err_from_is_err_and c.from_residual.result c.from_residual.ensures.1 in
    rw is (breaks_in _ _ _ _ _ _ _ error (rw next at c.loop-told.invariant) c.in_err-write_stayed_line.ensures)

pub loop-told-preserved : goal.loop-told-preserved
loop-told-preserved g c =
    let next = flat_map-drop (stayed_line c.args.texts.now) c.args.stayed.now c.loop-told.told-index some_move c.loop-told-test.true in
    goes_on_with _ _ _ _ _ _ _ (rw next at c.loop-told.invariant) c.in_ok-write_stayed_line.ensures
