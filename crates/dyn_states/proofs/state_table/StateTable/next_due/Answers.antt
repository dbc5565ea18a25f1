use Rattle.std.proofs.Common.{arith}
use Rattle.dyn_states.proofs.Options.{none_gives, some_gives}
use Rattle.dyn_states.proofs.TableLaws.{Serves-popped, Serves-same, held_live, due-popped}
use Rattle.dyn_states.proofs.state_table.StateTable.next_due.Goals as goal

pub returns-clause-none : goal.returns-clause-none
returns-clause-none c =
    let was = c.requires in
    none_gives c.pop_due.result _ _ _ _ c.pop_due.ensures.entries c.pop_due.ensures.kept (λ h kept.
    let serves = Serves-same c.args.self.now.slots.items c.args.self.now.queue c.pop_due.new.self was.serves h.1 c.pop_due.ensures.order in (
      record {
        leads = was.leads;
        serves = serves;
        tallied = was.tallied;
        room = record {
          slots = was.room.slots;
          lines = was.room.lines;
          queue = let f = was.room.queue in let g = c.pop_due.ensures.room in omega arith;
          tallies = was.room.tallies;
          pairs = was.room.pairs;
          few = was.room.few;
          entries = let f = was.room.entries in let g = c.pop_due.ensures.room in omega arith;
          small = was.room.small;
        };
      },
      held_live c.args.clock c.args.self.now.slots.items c.pop_due.new.self serves h.0,
    ))

pub returns-clause-some : goal.returns-clause-some
returns-clause-some c =
    let was = c.requires in
    some_gives c.pop_due.result _ _ _ _ c.pop_due.ensures.entries c.pop_due.ensures.count (λ place h less. (
      record {
        leads = was.leads;
        serves = Serves-popped c.args.self.now.slots.items h.0 place c.args.self.now.queue c.pop_due.new.self was.serves h.2 c.pop_due.ensures.order;
        tallied = was.tallied;
        room = record {
          slots = was.room.slots;
          lines = was.room.lines;
          queue = let f = was.room.queue in let g = c.pop_due.ensures.room in omega arith;
          tallies = was.room.tallies;
          pairs = was.room.pairs;
          few = was.room.few;
          entries = let f = was.room.entries in let g = c.pop_due.ensures.room in omega arith;
          small = was.room.small;
        };
      },
      let f = was.room.entries in let g = c.pop_due.ensures.room in omega arith,
      due-popped c.args.clock h.0 place c.args.self.now.queue c.pop_due.new.self h.1 h.2,
    ))
