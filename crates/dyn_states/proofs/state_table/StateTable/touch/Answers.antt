use Rattle.std.proofs.Common.{◌≤◌, arith, ap}
use Rattle.dyn_states.specs.declared.state.State.{State}
use Rattle.dyn_states.specs.Slots.{slot}
use Rattle.dyn_states.proofs.LeadsLaws.{slot-read}
use Rattle.dyn_states.proofs.TableLaws.{Leads-touch, Serves-later, Serves-sooner, IsTallied-touch}
use Rattle.dyn_states.proofs.state_table.StateTable.touch.Goals as goal

pub returns-then-expiry-state-clause-table : goal.returns-then-expiry-state-clause-table
returns-then-expiry-state-clause-table c =
    let was = c.requires.table in
    let is = ap (λ (x : State). x.expiry) (slot-read c.args.self.now.slots.items c.args.place c.index.result.now c.requires.place c.index.ensures) in
    let later : (slot c.args.self.now.slots.items c.args.place).expiry ≤ c.args.state.expiry = let h = c.if-expiry-state.true in omega arith in
    record {
      leads = Leads-touch c.args.self.now.slots.items c.args.place c.args.state c.args.self.now.lines was.leads c.requires.place c.requires.held c.requires.same.flow c.requires.same.name;
      serves = Serves-later c.args.self.now.slots.items c.args.place c.args.state c.args.self.now.queue was.serves c.requires.place c.requires.held later;
      tallied = IsTallied-touch c.args.self.now.slots.items c.args.place c.args.state c.args.self.now.tallies was.tallied c.requires.place c.requires.held c.requires.still c.requires.same;
      room = record { slots = was.room.slots; lines = was.room.lines; queue = was.room.queue; tallies = was.room.tallies; pairs = was.room.pairs; few = was.room.few; entries = was.room.entries; small = was.room.small };
    }

pub returns-clause-table : goal.returns-clause-table
returns-clause-table c =
    let was = c.requires.table in
    record {
      leads = Leads-touch c.args.self.now.slots.items c.args.place c.args.state c.args.self.now.lines was.leads c.requires.place c.requires.held c.requires.same.flow c.requires.same.name;
      serves = Serves-sooner c.args.self.now.slots.items c.args.place c.args.state c.args.self.now.queue c.push.new.self was.serves c.push.ensures.entries (c.push.ensures.order was.serves.order);
      tallied = IsTallied-touch c.args.self.now.slots.items c.args.place c.args.state c.args.self.now.tallies was.tallied c.requires.place c.requires.held c.requires.still c.requires.same;
      room = record {
        slots = was.room.slots;
        lines = was.room.lines;
        queue = let h = was.room.queue in let g = c.push.ensures.room in omega arith;
        tallies = was.room.tallies;
        pairs = was.room.pairs;
        few = was.room.few;
        entries = let h = c.requires.room.queue in let g = c.push.ensures.room in let f = c.push.ensures.count in omega arith;
        small = was.room.small;
      };
    }
