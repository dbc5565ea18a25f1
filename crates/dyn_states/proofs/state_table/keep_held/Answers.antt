use Rattle.std.proofs.Common.{rules}
use Rattle.std.proofs.lemmas.Fn.{filter_same}
use Rattle.dyn_states.specs.Slots.{is_held}
use Rattle.dyn_states.proofs.state_table.keep_held.Goals as goal

pub returns-clause-items : goal.returns-clause-items
returns-clause-items c = filter_same _ is_held _ (λ x b f' k. search rules) _ _ c.retain.ensures.filtered
