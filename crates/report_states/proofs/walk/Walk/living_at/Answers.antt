use Rattle.std.proofs.Common.{List, ap, ◌∙◌}
use Rattle.std.specs.Prelude.{count_by}
use Rattle.dyn_states.specs.StateObject.{is_live}
use Rattle.dyn_states.specs.declared.state.State.{State}
use Rattle.report_states.proofs.Clocks.{count_slots}
use Rattle.report_states.proofs.walk.Walk.living_at.Goals as goal

pub returns : goal.returns
returns c = c.count_live.ensures ∙ count_slots c.args.second c.slots.result.now ∙ ap (λ (states : List State). count_by (is_live c.args.second) states) c.slots.ensures
