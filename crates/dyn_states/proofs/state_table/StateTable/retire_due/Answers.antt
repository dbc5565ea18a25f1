use Rattle.std.proofs.Common.{◌≡◌, List, sym, ◌∙◌, ap, length, arith}
use Rattle.std.proofs.lemmas.List.Sums.{length-filter, count_by-le-length}
use Rattle.dyn_states.specs.StateTable.{states_of}
use Rattle.std.specs.Prelude.{filter}
use Rattle.dyn_states.specs.StateObject as object
use Rattle.dyn_states.specs.declared.state.State.{State}
use Rattle.dyn_states.proofs.SlotLaws.{live_is_held}
use Rattle.dyn_states.proofs.state_table.StateTable.retire_due.Goals as goal

pub returns-clause-states : goal.returns-clause-states
returns-clause-states c =
    sym c.in_default.ensures.none.1
    ∙ (ap (λ (slots : List State). filter (object.is_live c.args.clock) slots) c.next_due.ensures.slots
    ∙ (c.loop-place.invariant.live ∙ sym (live_is_held c.args.clock c.args.self.now.slots.items)))

pub returns-clause-count : goal.returns-clause-count
returns-clause-count c =
    let states : states_of c.next_due.new.self ≡ filter (object.is_live c.args.clock) (states_of c.args.self.now) =
    sym c.in_default.ensures.none.1
    ∙ (ap (λ (slots : List State). filter (object.is_live c.args.clock) slots) c.next_due.ensures.slots
    ∙ (c.loop-place.invariant.live ∙ sym (live_is_held c.args.clock c.args.self.now.slots.items))) in
    let long = ap (λ (xs : List State). length xs) states in
    let part = length-filter (object.is_live c.args.clock) (states_of c.args.self.now) in
    let few = count_by-le-length (object.is_live c.args.clock) (states_of c.args.self.now) in
    omega arith
