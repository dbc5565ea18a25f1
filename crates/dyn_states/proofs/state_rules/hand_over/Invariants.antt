use Rattle.std.proofs.Common.{◌≡◌, ◌++◌, map, take, drop}
use Rattle.dyn_states.specs.StateObject as object
use Rattle.dyn_states.proofs.state_rules.hand_over.Given as goal

abbrev pub invariant-loop-place : goal.invariant-loop-place
invariant-loop-place l = l.states ≡ map (object.handed_over l.rules) (take l.place l.initial.states) ++ drop l.place l.initial.states
