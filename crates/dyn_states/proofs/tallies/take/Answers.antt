use Rattle.dyn_states.specs.Slots.{no_state}
use Rattle.dyn_states.proofs.CountLaws.{Counts-give_up}
use Rattle.dyn_states.proofs.tallies.take.Goals as goal

pub returns-clause-counts : goal.returns-clause-counts
returns-clause-counts c = Counts-give_up c.args.mask c.args.slots.now c.args.place no_state c.args.counts.now _ c.requires.counts c.requires.place c.requires.held (rw c.pair_of.ensures at c.take.ensures.amounts)
