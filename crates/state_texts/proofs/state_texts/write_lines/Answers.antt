use Rattle.std.proofs.lemmas.Result.{err_from_is_err_and}
use Rattle.fw_base.proofs.Texts.{goes_on_with, breaks_in, flat_map-drop}
use Rattle.state_texts.specs.StateTexts.{slot_text}
use Rattle.dyn_states.proofs.FirstChanged.{some_state}
use Rattle.state_texts.proofs.state_texts.write_lines.Goals as goal

pub returns-in_err-write_slot : goal.returns-in_err-write_slot
returns-in_err-write_slot g c =
    let (error, is, same) = err_from_is_err_and c.from_residual.result c.from_residual.ensures.1 in
    let next = flat_map-drop (slot_text c.args.names.now) c.args.slots.now c.loop-slot.slot-index some_state c.loop-slot-test.true in
    rw is (breaks_in _ _ _ _ _ _ _ error (rw next at c.loop-slot.invariant) c.in_err-write_slot.ensures)

pub loop-slot-preserved : goal.loop-slot-preserved
loop-slot-preserved g c =
    let next = flat_map-drop (slot_text c.args.names.now) c.args.slots.now c.loop-slot.slot-index some_state c.loop-slot-test.true in
    goes_on_with _ _ _ _ _ _ _ (rw next at c.loop-slot.invariant) c.in_ok-write_slot.ensures
