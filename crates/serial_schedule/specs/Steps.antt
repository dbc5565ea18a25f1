-- What contracts see of an agenda.
use Rattle.std.specs.Prelude.{List}
use Rattle.fw_command.specs.declared.script.Step.{Step}
use Rattle.serial_schedule.specs.declared.agenda.Agenda.{Agenda}

-- the steps that are still to come
abbrev pub steps_of : Agenda → List Step
steps_of agenda = agenda.steps.now
