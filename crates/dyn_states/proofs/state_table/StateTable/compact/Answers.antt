use Rattle.std.proofs.Common.{◌≡◌, ◌<◌, length, take, ap, ◌∙◌, arith}
use Rattle.std.proofs.lemmas.List.Elements.{filter_passes}
use Rattle.state_asks.specs.declared.op.FlowName.TheVariants.{Named}
use Rattle.dyn_states.specs.declared.state.State.{State}
use Rattle.dyn_states.specs.Slots.{is_held, slot, no_state}
use Rattle.dyn_states.specs.StateObject as object
use Rattle.dyn_states.specs.StateTable.{states_of}
use Rattle.dyn_states.proofs.ApartLaws.{apart_front, any_filter_none}
use Rattle.dyn_states.proofs.state_table.StateTable.compact.Goals as goal

pub enter-requires-clause-held : goal.enter-requires-clause-held
enter-requires-clause-held c =
    let same : c.loop-place.self.slots.items ≡ states_of c.args.self.now = ap (λ v. v.items) c.loop-place.invariant.slots ∙ c.keep_held.ensures.slots in
    let inside : c.loop-place.place < length (states_of c.args.self.now) = let t = c.loop-place-test.true in let l = c.len-place-end.ensures in let e = ap length c.keep_held.ensures.slots in omega arith in
    rw same (filter_passes is_held c.args.self.now.slots.items c.loop-place.place no_state inside)

pub enter-requires-clause-first : goal.enter-requires-clause-first
enter-requires-clause-first c =
    let same : c.loop-place.self.slots.items ≡ states_of c.args.self.now = ap (λ v. v.items) c.loop-place.invariant.slots ∙ c.keep_held.ensures.slots in
    let inside : c.loop-place.place < length (states_of c.args.self.now) = let t = c.loop-place-test.true in let l = c.len-place-end.ensures in let e = ap length c.keep_held.ensures.slots in omega arith in
    let s : State = slot (states_of c.args.self.now) c.loop-place.place in
    rw same (any_filter_none (object.considers s.flow (Named s.name)) is_held (take c.loop-place.place (states_of c.args.self.now)) (apart_front (states_of c.args.self.now) c.loop-place.place c.requires.apart inside))
