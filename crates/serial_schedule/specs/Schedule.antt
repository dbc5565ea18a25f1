-- The order of records and commands: the commands that are due run before the next record, and those that
-- are left when all captures have ended run then (this project's own).
use Rattle.std.specs.Prelude.{ℕ, ◌+◌, List, [], ◌∷◌, ◌++◌, map}
use Rattle.fw_command.specs.declared.script.Line.{Line}
use Rattle.fw_command.specs.declared.script.Step.{Step}
use Rattle.pcap_read.specs.Reading.{Captured}
use Rattle.serial_schedule.specs.Agenda.{due_lines, waiting_steps}
use Rattle.fw_command.specs.Steps.{all_lines}
use Rattle.serial_schedule.specs.Order.{Turn, in_order}

-- a command runs, or a capture gives a record
pub data Event : Type 0 where
  Ran : Line → Event
  Taken : Turn → Event

-- the events where so many records were taken, these steps wait, and these records are still to come
unfoldable pub events_from : ℕ → List Step → List Turn → List Event
events_from taken steps [] = map Ran (all_lines steps)
events_from taken steps (turn ∷ turns) = map Ran (due_lines taken steps) ++ Taken turn ∷ events_from (taken + 1) (waiting_steps taken steps) turns

-- the events of a run over these captures
abbrev pub schedule : List Step → List (List Captured) → List Event
schedule steps captures = events_from 0 steps (in_order captures)
