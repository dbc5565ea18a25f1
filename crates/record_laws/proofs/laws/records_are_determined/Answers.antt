use Rattle.record_laws.proofs.OneReplay.{records_are_determined}
use Rattle.record_laws.proofs.laws.records_are_determined.Goals as goal

pub returns : goal.returns
returns c = records_are_determined
