use Rattle.std.proofs.Common.{◌≡◌, sym, ◌∙◌, ap, List, Some, None}
use Rattle.std.specs.List.{position}
use Rattle.dyn_states.specs.declared.state.State.{State}
use Rattle.dyn_states.specs.StateObject.{StateObject, HeldStates, considers, state_after_lookup, found_reply, lookup_reply, after_lookup}
use Rattle.dyn_states.proofs.FirstChanged.{with_first_place, find_place, with_first_nowhere, find_nowhere, some_state}
use Rattle.dyn_states.proofs.scanned_states.ScannedStates.look_up.Goals as goal

pub returns-in-None-clause-reply : goal.returns-in-None-clause-reply
unfolding lookup_reply
returns-in-None-clause-reply c =
    let same : c.self.inside.states.items ≡ c.args.self.now.object.states = ap (λ (v : HeldStates). v.object.states) c.self.view_is in
    let at : position (considers c.args.flow.now c.args.name) c.args.self.now.object.states ≡ None = cc in
    ap (found_reply c.args.flow.now) (sym (find_nowhere (considers c.args.flow.now c.args.name) c.args.self.now.object.states at))

pub returns-in-None-clause-after : goal.returns-in-None-clause-after
unfolding after_lookup
returns-in-None-clause-after c =
    let same : c.self.inside.states.items ≡ c.args.self.now.object.states = ap (λ (v : HeldStates). v.object.states) c.self.view_is in
    let at : position (considers c.args.flow.now c.args.name) c.args.self.now.object.states ≡ None = cc in
    ap (λ (states : List State). let o : StateObject = record c.args.self.now.object { states = states } in o)
    (sym (with_first_nowhere (considers c.args.flow.now c.args.name) (state_after_lookup c.args.self.now.object c.args.flow.now c.args.flags) c.args.self.now.object.states at))

pub returns-in-Some-clause-reply : goal.returns-in-Some-clause-reply
unfolding lookup_reply
returns-in-Some-clause-reply c =
    let same : c.self.inside.states.items ≡ c.args.self.now.object.states = ap (λ (v : HeldStates). v.object.states) c.self.view_is in
    let at : position (considers c.args.flow.now c.args.name) c.args.self.now.object.states ≡ Some c.in-Some.place = cc in
    c.find_at.ensures.reply some_state
    ∙ ap (found_reply c.args.flow.now) (sym (find_place (considers c.args.flow.now c.args.name) c.args.self.now.object.states c.in-Some.place some_state at))

pub returns-in-Some-clause-after : goal.returns-in-Some-clause-after
unfolding after_lookup
returns-in-Some-clause-after c =
    let same : c.self.inside.states.items ≡ c.args.self.now.object.states = ap (λ (v : HeldStates). v.object.states) c.self.view_is in
    let at : position (considers c.args.flow.now c.args.name) c.args.self.now.object.states ≡ Some c.in-Some.place = cc in
    c.find_at.ensures.after some_state
    ∙ ap (λ (states : List State). let o : StateObject = record c.args.self.now.object { states = states } in o)
    (sym (with_first_place (considers c.args.flow.now c.args.name) (state_after_lookup c.args.self.now.object c.args.flow.now c.args.flags) c.args.self.now.object.states c.in-Some.place some_state at))
