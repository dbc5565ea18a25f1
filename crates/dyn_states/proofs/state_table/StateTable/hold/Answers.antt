use Rattle.std.proofs.Common.{◌≡◌, ap, sym, ◌∙◌, length, arith}
use Rattle.dyn_states.proofs.TableLaws.{Leads-push, Serves-push}
use Rattle.dyn_states.proofs.state_table.StateTable.hold.Goals as goal

pub returns-clause-table : goal.returns-clause-table
returns-clause-table c =
    let long : c.len-place.result ≡ length c.args.self.now.slots.items = c.len-place.ensures ∙ (sym c.deref.ensures.len ∙ ap length c.deref.ensures.value) in
    let was = c.requires.table in
    record {
      leads = rw c.push_reserved.ensures.items (Leads-push c.args.self.now.slots.items c.args.state c.args.self.now.lines c.put.new.self was.leads c.requires.first (rw (c.line_of.ensures, long) at c.put.ensures.places) (rw c.line_of.ensures at c.put.ensures.names.0) c.put.ensures.names.1 c.put.ensures.ends c.put.ensures.count);
      serves = rw c.push_reserved.ensures.items (Serves-push c.args.self.now.slots.items c.args.state c.args.self.now.queue c.push.new.self was.serves (rw long at c.push.ensures.entries) (c.push.ensures.order was.serves.order));
      tallied = rw c.push_reserved.ensures.items (rw c.deref.ensures.value at c.add.ensures.tallied);
      room = record {
        slots = let h = was.room.slots in omega arith;
        lines = let h = was.room.lines in let g = c.put.ensures.room in omega arith;
        queue = let h = was.room.queue in let g = c.push.ensures.room in omega arith;
        tallies = c.add.ensures.memory;
        pairs = let h = was.room.pairs in let g = c.add.ensures.room in omega arith;
        few = let h = c.requires.room.slots in let g = c.push_reserved.ensures.len in omega arith;
        entries = let h = c.requires.room.queue in let g = c.push.ensures.room in let f = c.push.ensures.count in omega arith;
        small = was.room.small;
      };
    }
