use Rattle.std.proofs.Common.{◌≡◌, ◌∙◌, ap, sym, List, length, arith}
use Rattle.dyn_states.specs.declared.state.State.{State}
use Rattle.dyn_states.specs.Slots.{held_states}
use Rattle.dyn_states.specs.StateObject.{states_after}
use Rattle.dyn_states.specs.StateTable.{slots_of, states_of}
use Rattle.dyn_states.proofs.ApartLaws.{leads_apart, states_after-apart}
use Rattle.dyn_states.proofs.SlotLaws.{held_twice, states_after-held, length-states_after}
use Rattle.dyn_states.proofs.state_table.StateTable.take_over.Goals as goal

pub compact-requires-clause-apart : goal.compact-requires-clause-apart
compact-requires-clause-apart c =
    let keep = c.args.facts.now.settings.keep in
    let rules = c.args.facts.now.rules in
    rw (c.take_over.ensures.items, states_after-held keep rules c.args.self.now.slots.items) (states_after-apart keep rules (held_states c.args.self.now.slots.items) (leads_apart c.args.self.now.slots.items c.args.self.now.lines c.requires.table.leads))

pub recount-requires-clause-held : goal.recount-requires-clause-held
recount-requires-clause-held c =
    ap (λ (slots : List State). held_states slots) c.compact.ensures.slots ∙ (held_twice c.take_over.new.states.items ∙ sym c.compact.ensures.slots)

pub recount-requires-clause-few : goal.recount-requires-clause-few
recount-requires-clause-few c =
    let keep = c.args.facts.now.settings.keep in
    let rules = c.args.facts.now.rules in
    let kept : slots_of c.compact.new.self ≡ states_after keep rules (states_of c.args.self.now) =
    c.compact.ensures.slots ∙ (ap (λ (slots : List State). held_states slots) c.take_over.ensures.items ∙ states_after-held keep rules c.args.self.now.slots.items) in
    let long = ap (λ (xs : List State). length xs) kept in
    let few = length-states_after keep rules (states_of c.args.self.now) in
    let most = c.compact.ensures.most in
    let room = c.requires.few in
    omega arith

pub returns-clause-states : goal.returns-clause-states
returns-clause-states c =
    ap (λ v. held_states v.items) c.recount.ensures.slots
    ∙ (ap (λ (slots : List State). held_states slots) c.compact.ensures.slots
    ∙ (held_twice c.take_over.new.states.items
    ∙ (ap (λ (slots : List State). held_states slots) c.take_over.ensures.items ∙ states_after-held c.args.facts.now.settings.keep c.args.facts.now.rules c.args.self.now.slots.items)))

pub returns-clause-count : goal.returns-clause-count
returns-clause-count c =
    let states =
    ap (λ v. held_states v.items) c.recount.ensures.slots
    ∙ (ap (λ (slots : List State). held_states slots) c.compact.ensures.slots
    ∙ (held_twice c.take_over.new.states.items
    ∙ (ap (λ (slots : List State). held_states slots) c.take_over.ensures.items ∙ states_after-held c.args.facts.now.settings.keep c.args.facts.now.rules c.args.self.now.slots.items))) in
    let long = ap (λ (xs : List State). length xs) states in
    let few = length-states_after c.args.facts.now.settings.keep c.args.facts.now.rules (states_of c.args.self.now) in
    omega arith
