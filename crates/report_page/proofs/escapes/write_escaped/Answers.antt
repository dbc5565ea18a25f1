use Rattle.std.proofs.lemmas.Result.{err_from_is_err_and}
use Rattle.fw_base.proofs.Texts.{goes_on_with, breaks_in, flat_map-drop}
use Rattle.report_page.specs.Escapes.{escaped_byte, escaped}
use Rattle.report_page.proofs.escapes.write_escaped.Goals as goal

pub returns-in_err-write_escaped_byte : goal.returns-in_err-write_escaped_byte
unfolding escaped
returns-in_err-write_escaped_byte g c =
    let (error, is, same) = err_from_is_err_and c.from_residual.result c.from_residual.ensures.1 in
    let next = flat_map-drop escaped_byte c.args.text.now c.loop-byte.byte-index 0 c.loop-byte-test.true in
    rw is (breaks_in _ _ _ _ _ _ _ error (rw next at c.loop-byte.invariant) c.in_err-write_escaped_byte.ensures)

pub loop-byte-preserved : goal.loop-byte-preserved
loop-byte-preserved g c =
    let next = flat_map-drop escaped_byte c.args.text.now c.loop-byte.byte-index 0 c.loop-byte-test.true in
    goes_on_with _ _ _ _ _ _ _ (rw next at c.loop-byte.invariant) c.in_ok-write_escaped_byte.ensures
