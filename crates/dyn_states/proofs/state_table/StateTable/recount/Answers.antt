use Rattle.std.proofs.Common.{◌≡◌, ◌<◌, length, ap, arith}
use Rattle.std.proofs.lemmas.List.Elements.{filter_passes}
use Rattle.dyn_states.specs.Slots.{is_held, no_state}
use Rattle.dyn_states.specs.StateTable.{states_of}
use Rattle.dyn_states.proofs.state_table.StateTable.recount.Goals as goal

pub count-requires-clause-held : goal.count-requires-clause-held
count-requires-clause-held c =
    let same : c.loop-place.self.slots.items ≡ c.args.self.now.slots.items = ap (λ v. v.items) c.loop-place.invariant.slots in
    let inside : c.loop-place.place < length (states_of c.args.self.now) = let t = c.loop-place-test.true in let l = c.len-place-end.ensures in let e = ap length c.requires.held in omega arith in
    rw same (rw c.requires.held at (filter_passes is_held c.args.self.now.slots.items c.loop-place.place no_state inside))
