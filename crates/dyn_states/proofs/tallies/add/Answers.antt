use Rattle.dyn_states.proofs.CountLaws.{Counts-push}
use Rattle.dyn_states.proofs.tallies.add.Goals as goal

pub returns-clause-counts : goal.returns-clause-counts
returns-clause-counts c = Counts-push c.args.mask c.args.slots.now c.args.state.now c.args.counts.now _ c.requires.counts c.requires.held (rw c.pair_of.ensures at c.add.ensures.amounts)
