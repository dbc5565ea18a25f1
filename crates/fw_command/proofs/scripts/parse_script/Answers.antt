use Rattle.fw_command.specs.Laws.{IsFaultPlace, IsOfItsLines}
use Rattle.fw_command.specs.WellFormed.{IsScript}
use Rattle.fw_command.proofs.ScriptInRange.{script_from_on, on_reads, on_faults}
use Rattle.fw_command.proofs.Standing.{all_read}
use Rattle.fw_command.proofs.FaultPlaces.{all_placed}
use Rattle.fw_command.proofs.scripts.parse_script.Goals as goal

pub returns-clause-lines : goal.returns-clause-lines
returns-clause-lines c = on_reads _ _ (IsOfItsLines _) c.read_lines.ensures (all_read _ _)

pub returns-clause-fault : goal.returns-clause-fault
returns-clause-fault c = on_faults _ _ (IsFaultPlace _ 1 _) tt c.read_lines.ensures (all_placed _ _)

pub returns-clause-well_formed : goal.returns-clause-well_formed
returns-clause-well_formed c = on_reads _ _ IsScript c.read_lines.ensures (script_from_on _ _ _)
