use Rattle.std.proofs.Common.{◌≡◌, ◌∙◌, ap, sym, List, length, arith}
use Rattle.dyn_states.specs.declared.state.State.{State}
use Rattle.dyn_states.specs.Slots.{held_states}
use Rattle.dyn_states.specs.StateTable.{slots_of, states_of}
use Rattle.dyn_states.proofs.ApartLaws.{leads_apart}
use Rattle.dyn_states.proofs.SlotLaws.{held_twice}
use Rattle.dyn_states.proofs.state_table.StateTable.count_limits.Goals as goal

pub compact-requires-clause-apart : goal.compact-requires-clause-apart
compact-requires-clause-apart c = leads_apart c.args.self.now.slots.items c.args.self.now.lines c.requires.table.leads

pub recount-requires-clause-held : goal.recount-requires-clause-held
recount-requires-clause-held c =
    ap (λ (slots : List State). held_states slots) c.compact.ensures.slots ∙ (held_twice c.args.self.now.slots.items ∙ sym c.compact.ensures.slots)

pub recount-requires-clause-few : goal.recount-requires-clause-few
recount-requires-clause-few c =
    let long = ap (λ (xs : List State). length xs) c.compact.ensures.slots in
    let most = c.compact.ensures.most in
    let room = c.requires.few in
    omega arith

pub returns-clause-states : goal.returns-clause-states
returns-clause-states c =
    ap (λ v. held_states v.items) c.recount.ensures.slots
    ∙ (ap (λ (slots : List State). held_states slots) c.compact.ensures.slots ∙ held_twice c.args.self.now.slots.items)
