use Rattle.run_audit.proofs.Meetings.{met_none}
use Rattle.run_audit.proofs.comparer.Comparer.new.Goals as goal

pub invariant_of-result : goal.invariant_of-result
invariant_of-result c = rw c.of.ensures (met_none c.args.text.items)
