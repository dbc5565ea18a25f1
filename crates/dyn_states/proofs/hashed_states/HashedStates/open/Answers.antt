use Rattle.std.proofs.Common.{◌≡◌, ap, List, length, arith}
use Rattle.dyn_states.specs.declared.state.State.{State}
use Rattle.dyn_states.specs.Slots.{held_states}
use Rattle.dyn_states.specs.StateTable.{states_of}
use Rattle.dyn_states.proofs.hashed_states.HashedStates.open.Goals as goal

pub invariant_of-result : goal.invariant_of-result
invariant_of-result c =
    let empty : length (states_of c.in_ok-open.field-0) ≡ 0 = ap (λ (slots : List State). length (held_states slots)) c.in_ok-open.ensures.none in
    let most = c.in_ok-open.ensures.most in
    let least = c.min-most.ensures in
    let range = c.args.settings.max_in_range in
    let wanted = c.requires in
    (record { table = c.in_ok-open.ensures.table; held = omega arith; most = omega arith }, omega arith)
