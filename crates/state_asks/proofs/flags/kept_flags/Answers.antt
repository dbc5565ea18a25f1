use Rattle.state_asks.proofs.FewFlags.{few_flags}
use Rattle.state_asks.proofs.flags.kept_flags.Goals as goal

pub returns-clause-few : goal.returns-clause-few
returns-clause-few c = few_flags c.args.flags
