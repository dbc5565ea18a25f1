use Rattle.run_audit.proofs.Composed.{composed}
use Rattle.run_audit.proofs.laws.told_records_are_legal.Goals as goal

pub returns : goal.returns
returns c = composed
