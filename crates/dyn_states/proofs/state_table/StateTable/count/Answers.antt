use Rattle.std.proofs.Common.{◌≡◌, ◌+◌, ◌∷◌, ◌++◌, [], List, take, ap, sym, ◌∙◌}
use Rattle.std.proofs.lemmas.List.{take_more}
use Rattle.dyn_states.specs.declared.state.State.{State}
use Rattle.dyn_states.specs.Slots.{slot, no_state}
use Rattle.dyn_states.proofs.LeadsLaws.{slot-read}
use Rattle.dyn_states.proofs.state_table.StateTable.count.Goals as goal

pub returns-clause-tallied : goal.returns-clause-tallied
returns-clause-tallied c =
    let all : List State = c.args.self.now.slots.items in
    let is : c.index.result.now ≡ slot all c.args.place = slot-read all c.args.place c.index.result.now c.requires.place c.index.ensures in
    let more : take (c.args.place + 1) all ≡ take c.args.place all ++ c.index.result.now ∷ [] = take_more all c.args.place no_state c.requires.place ∙ ap (λ (x : State). take c.args.place all ++ x ∷ []) (sym is) in
    rw more (rw c.deref.ensures.value at c.add.ensures.tallied)
