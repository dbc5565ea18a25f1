use Rattle.std.proofs.Common.{sym, ◌∙◌}
use Rattle.std.proofs.lemmas.List.Sums.{length-filter}
use Rattle.dyn_states.specs.Slots.{is_held}
use Rattle.dyn_states.proofs.state_table.StateTable.live.Goals as goal

pub returns : goal.returns
returns c = c.live.ensures ∙ (c.requires.tallied.live ∙ sym (length-filter is_held c.args.self.now.slots.items))
