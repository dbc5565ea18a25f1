use Rattle.std.proofs.Common.{◌≡◌, ap, sym, ◌∙◌, Some, None, List, length, true}
use Rattle.std.proofs.Math.ListN.{set}
use Rattle.std.specs.Prelude.{find}
use Rattle.std.proofs.lemmas.List.Sums.{length-filter}
use Rattle.std.proofs.lemmas.Bool.{and_parts}
use Rattle.fw_rule.specs.Values.{values_of}
use Rattle.dyn_states.specs.declared.state.State.{State}
use Rattle.dyn_states.specs.Slots.{IsFirstPlace, slot, no_state, is_held, held_states}
use Rattle.dyn_states.specs.StateObject.{StateObject, lookup_reply, after_lookup, found_reply, considers, state_after_lookup, with_first}
use Rattle.dyn_states.specs.StateTable.{slots_of, states_of, object_of}
use Rattle.dyn_states.proofs.CountLaws.{live-touch}
use Rattle.dyn_states.proofs.SlotLaws.{find-none, find-held, with_first-held, with_first-none}
use Rattle.dyn_states.proofs.table_asks.look_up.Goals as goal

pub returns-in-None-clause-reply : goal.returns-in-None-clause-reply
unfolding lookup_reply
returns-in-None-clause-reply c =
    let test = considers c.args.flow.now c.args.name in
    let first : IsFirstPlace test (slots_of c.make_room.new.self) None = rw c.in-None.is at c.place_of.ensures in
    let none : find test (states_of c.args.table.now) ≡ None = rw c.make_room.ensures.states at (find-none test (slots_of c.make_room.new.self) first) in
    ap (found_reply c.args.flow.now) (sym none)

pub returns-in-None-clause-after : goal.returns-in-None-clause-after
unfolding after_lookup
returns-in-None-clause-after c =
    let o : StateObject = object_of c.args.table.now c.args.clock (values_of c.args.settings.now) in
    let test = considers c.args.flow.now c.args.name in
    let first : IsFirstPlace test (slots_of c.make_room.new.self) None = rw c.in-None.is at c.place_of.ensures in
    let same = with_first-none test (state_after_lookup o c.args.flow.now c.args.flags) (slots_of c.make_room.new.self) first in
    ap (λ (states : List State). let p : StateObject = record o { states = states } in p) (sym same ∙ ap (λ (states : List State). with_first test (state_after_lookup o c.args.flow.now c.args.flags) states) c.make_room.ensures.states)

pub returns-in-Some-clause-reply : goal.returns-in-Some-clause-reply
unfolding lookup_reply
returns-in-Some-clause-reply c =
    let test = considers c.args.flow.now c.args.name in
    let first : IsFirstPlace test (slots_of c.make_room.new.self) (Some c.in-Some.place) = rw c.in-Some.is at c.place_of.ensures in
    let found : find test (states_of c.args.table.now) ≡ Some (slot (slots_of c.make_room.new.self) c.in-Some.place) = rw c.make_room.ensures.states at (find-held test (slots_of c.make_room.new.self) c.in-Some.place first.0 first.1 first.2) in
    rw (c.way_of.ensures, c.slots.ensures) (ap (found_reply c.args.flow.now) (sym found))

pub returns-in-Some-clause-after : goal.returns-in-Some-clause-after
unfolding after_lookup
returns-in-Some-clause-after c =
    let o : StateObject = object_of c.args.table.now c.args.clock (values_of c.args.settings.now) in
    let test = considers c.args.flow.now c.args.name in
    let change = state_after_lookup o c.args.flow.now c.args.flags in
    let slots : List State = slots_of c.make_room.new.self in
    let first : IsFirstPlace test slots (Some c.in-Some.place) = rw c.in-Some.is at c.place_of.ensures in
    let is : c.touched.result ≡ change (slot slots c.in-Some.place) = rw c.slots.ensures at c.touched.ensures.value in
    let kept : is_held (change (slot slots c.in-Some.place)) ≡ true = sym (ap is_held is) ∙ c.touched.ensures.held in
    let changed = with_first-held test change slots c.in-Some.place first.0 first.1 first.2 kept in
    ap (λ (states : List State). let p : StateObject = record o { states = states } in p)
    (ap (λ (xs : List State). held_states xs) c.touch.ensures.slots
    ∙ (ap (λ (y : State). held_states (set slots c.in-Some.place y)) is
    ∙ (sym changed ∙ ap (λ (states : List State). with_first test change states) c.make_room.ensures.states)))

pub returns-in-Some-clause-count : goal.returns-in-Some-clause-count
returns-in-Some-clause-count c =
    let test = considers c.args.flow.now c.args.name in
    let slots : List State = slots_of c.make_room.new.self in
    let first : IsFirstPlace test slots (Some c.in-Some.place) = rw c.in-Some.is at c.place_of.ensures in
    let held = (and_parts (is_held (slot slots c.in-Some.place)) (test (slot slots c.in-Some.place)) first.1).0 in
    ap (λ (xs : List State). length (held_states xs)) c.touch.ensures.slots
    ∙ (length-filter is_held (set slots c.in-Some.place c.touched.result)
    ∙ (live-touch slots c.in-Some.place c.touched.result no_state first.0 (c.touched.ensures.held ∙ sym held)
    ∙ (sym (length-filter is_held slots) ∙ ap (λ (xs : List State). length xs) c.make_room.ensures.states)))
