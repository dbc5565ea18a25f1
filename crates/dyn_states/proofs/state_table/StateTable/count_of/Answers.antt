use Rattle.std.proofs.Common.{sym, ◌∙◌}
use Rattle.dyn_states.specs.LimitCounts.{same_pair}
use Rattle.dyn_states.specs.StateObject as object
use Rattle.dyn_states.proofs.SlotLaws.{count_by-held}
use Rattle.dyn_states.proofs.state_table.StateTable.count_of.Goals as goal

pub returns : goal.returns
unfolding same_pair
returns c = c.amount_of.ensures c.args.self.now.slots.items (c.requires.table.tallied.limits c.requires.counting) ∙ sym (count_by-held (object.counts_for c.args.rule c.args.mask c.args.flow.now) c.args.self.now.slots.items)
