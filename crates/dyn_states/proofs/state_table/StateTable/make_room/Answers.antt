use Rattle.std.proofs.Common.{◌∙◌, ap, sym, List}
use Rattle.dyn_states.specs.Slots.{held_states}
use Rattle.dyn_states.specs.declared.state.State.{State}
use Rattle.dyn_states.proofs.ApartLaws.{leads_apart}
use Rattle.dyn_states.proofs.SlotLaws.{held_twice}
use Rattle.dyn_states.proofs.TableLaws.{IsTallied-held}
use Rattle.dyn_states.proofs.state_table.StateTable.make_room.Goals as goal

pub compact-requires-clause-apart : goal.compact-requires-clause-apart
compact-requires-clause-apart c = leads_apart c.args.self.now.slots.items c.args.self.now.lines c.requires.table.leads

pub recount-requires-clause-held : goal.recount-requires-clause-held
recount-requires-clause-held c =
    ap (λ (slots : List State). held_states slots) c.compact.ensures.slots ∙ (held_twice c.args.self.now.slots.items ∙ sym c.compact.ensures.slots)

pub returns-then-is_full-clause-states : goal.returns-then-is_full-clause-states
returns-then-is_full-clause-states c =
    ap (λ v. held_states v.items) c.recount.ensures.slots
    ∙ (ap (λ (slots : List State). held_states slots) c.compact.ensures.slots ∙ held_twice c.args.self.now.slots.items)

pub returns-else-is_full-clause-states : goal.returns-else-is_full-clause-states
returns-else-is_full-clause-states c = ap (λ (slots : List State). held_states slots) c.compact.ensures.slots ∙ held_twice c.args.self.now.slots.items

pub returns-else-is_full-clause-table : goal.returns-else-is_full-clause-table
returns-else-is_full-clause-table c = record {
  leads = c.compact.ensures.parts.leads;
  serves = c.compact.ensures.parts.serves;
  tallied = rw (c.compact.ensures.slots, c.compact.ensures.tallies) (IsTallied-held c.args.self.now.slots.items c.args.self.now.tallies c.requires.table.tallied);
  room = c.compact.ensures.room;
}
