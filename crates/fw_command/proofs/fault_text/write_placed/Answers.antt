use Rattle.std.proofs.Common.{◌∙◌}
use Rattle.fw_command.specs.FaultText.{placed_text}
use Rattle.fw_command.proofs.fault_text.write_placed.Goals as goal

pub returns : goal.returns
unfolding placed_text
returns g c =
    let line = c.as_bytes-line.ensures.value ∙ c.format.ensures.text in
    let column = c.as_bytes-column.ensures.value ∙ c.format-2.ensures.text in
    rw (← line, ← column) c.write_pieces.ensures
