-- The first place among the states whose name comes before.
use Rattle.dyn_states.specs.Slots.{IsFirstPlace}
use Rattle.dyn_states.specs.StateTable.{slots_of}
use Rattle.dyn_states.proofs.PlaceLaws.{below_name}
use Rattle.dyn_states.proofs.state_table.StateTable.place_any.Given as goal

abbrev pub invariant-loop-name : goal.invariant-loop-name
invariant-loop-name l = IsFirstPlace (below_name l.flow l.name) (slots_of l.self) l.first
