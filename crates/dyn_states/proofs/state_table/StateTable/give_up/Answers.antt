use Rattle.std.proofs.Common.{arith}
use Rattle.dyn_states.proofs.LeadsLaws.{slot-read}
use Rattle.dyn_states.proofs.TableLaws.{Leads-give_up, Serves-give_up}
use Rattle.dyn_states.proofs.state_table.StateTable.give_up.Goals as goal

pub returns-clause-table : goal.returns-clause-table
returns-clause-table c =
    let is = slot-read c.args.self.now.slots.items c.args.place c.index.result.now c.requires.place c.index.ensures in
    let was = c.requires.table in
    record {
      leads = rw is (Leads-give_up c.args.self.now.slots.items c.args.place c.args.self.now.lines was.leads);
      serves = rw is (Serves-give_up c.args.self.now.slots.items c.args.place c.args.self.now.queue was.serves);
      tallied = rw is (rw c.deref.ensures.value at c.take.ensures.tallied);
      room = record {
        slots = was.room.slots;
        lines = was.room.lines;
        queue = was.room.queue;
        tallies = c.take.ensures.memory was.room.tallies;
        pairs = let h = was.room.pairs in let g = c.take.ensures.room in omega arith;
        few = was.room.few;
        entries = was.room.entries;
        small = was.room.small;
      };
    }
