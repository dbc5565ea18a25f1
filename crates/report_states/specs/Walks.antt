-- A walk along a journal: what is left of it, and what lives from a second on.
use Rattle.std.specs.Prelude.{◌≡◌, ◌≤◌, ℕ, List}
use Rattle.std.specs.List.{AllByRecursion}
use Rattle.dyn_states.specs.StateObject.{StateObject}
use Rattle.report_states.specs.LiveCounts.{most_living, objects_along}
use Rattle.report_states.specs.declared.walk.Walk.{Walk}

-- the state object as each entry that is left leaves it
abbrev pub objects_left : Walk → List StateObject
objects_left walk = objects_along walk.states.object walk.facts.now walk.entries.now

-- the clock comes to this second with the next entry, or it is beyond, or none is left
abbrev pub IsAt : ℕ → Walk → Type 0
IsAt second walk = AllByRecursion (λ o. second ≤ o.clock) (objects_left walk)

-- of what lives from this second on the later walk tells what the earlier tells
abbrev pub GoesOnAt : ℕ → Walk → Walk → Type 0
GoesOnAt second old new =
    (begin end : ℕ) → second ≤ begin
    → most_living begin end old.states.object (objects_left old) ≡ most_living begin end new.states.object (objects_left new)
