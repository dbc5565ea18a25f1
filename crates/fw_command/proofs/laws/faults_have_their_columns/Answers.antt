use Rattle.fw_command.proofs.CommandPlaces.{columns_are}
use Rattle.fw_command.proofs.FaultPlaces.{places_are}
use Rattle.fw_command.proofs.laws.faults_have_their_columns.Goals as goal

pub returns-clause-lines : goal.returns-clause-lines
returns-clause-lines c = columns_are

pub returns-clause-scripts : goal.returns-clause-scripts
returns-clause-scripts c = places_are
