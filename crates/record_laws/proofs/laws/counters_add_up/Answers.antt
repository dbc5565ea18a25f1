use Rattle.record_laws.proofs.AddingUp.{counters_add_up}
use Rattle.record_laws.proofs.laws.counters_add_up.Goals as goal

pub returns : goal.returns
returns c = counters_add_up
