use Rattle.std.proofs.Common.{◌≡◌, ◌≤◌, ◌<◌, ℕ, false, arith, ap, length}
use Rattle.std.specs.Prelude.{nat_lt}
use Rattle.std.proofs.lemmas.Bool.Decides.{nat_tests}
use Rattle.dyn_states.specs.StateObject as object
use Rattle.dyn_states.specs.declared.state.State.{State}
use Rattle.dyn_states.specs.Slots.{slot, given_up}
use Rattle.dyn_states.proofs.LeadsLaws.{slot-read}
use Rattle.dyn_states.proofs.SlotLaws.{filter-set_out}
use Rattle.dyn_states.proofs.TableLaws.{Serves-put_back, due-pushed}
use Rattle.dyn_states.proofs.state_table.StateTable.visit.Goals as goal

-- what expired by a second doesn't live then
dead_by : (clock expiry : ℕ) → expiry ≤ clock → nat_lt clock expiry ≡ false
dead_by clock expiry due = grind (arith, nat_tests)

pub returns-then-expiry-from-clause-live : goal.returns-then-expiry-from-clause-live
returns-then-expiry-from-clause-live c =
    let inside : c.args.place < length c.args.self.now.slots.items = let l = c.len.ensures in let f = c.if-len-place.false in omega arith in
    let is = ap (λ (x : State). x.expiry) (slot-read c.args.self.now.slots.items c.args.place c.index.result.now inside c.index.ensures) in
    let due : (slot c.args.self.now.slots.items c.args.place).expiry ≤ c.args.clock = let f = c.from.ensures in let t = c.if-expiry-from.true in omega arith in
    rw c.give_up.ensures.slots (filter-set_out (object.is_live c.args.clock) c.args.self.now.slots.items c.args.place (given_up (slot c.args.self.now.slots.items c.args.place)) (dead_by c.args.clock _ due) (dead_by c.args.clock 0 (omega arith)))

pub returns-clause-table : goal.returns-clause-table
returns-clause-table c =
    let was = c.requires.table in
    let inside : c.args.place < length c.args.self.now.slots.items = let l = c.len.ensures in let f = c.if-len-place.false in omega arith in
    let is = ap (λ (x : State). x.expiry) (slot-read c.args.self.now.slots.items c.args.place c.index.result.now inside c.index.ensures) in
    record {
      leads = was.leads;
      serves = Serves-put_back c.args.self.now.slots.items c.args.place c.index.result.now.expiry c.args.self.now.queue c.push.new.self was.serves is c.push.ensures.entries (c.push.ensures.order was.serves.order);
      tallied = was.tallied;
      room = record {
        slots = was.room.slots;
        lines = was.room.lines;
        queue = let h = was.room.queue in let g = c.push.ensures.room in omega arith;
        tallies = was.room.tallies;
        pairs = was.room.pairs;
        few = was.room.few;
        entries = let h = c.requires.room in let g = c.push.ensures.room in let f = c.push.ensures.count in omega arith;
        small = was.room.small;
      };
    }

pub returns-clause-due : goal.returns-clause-due
returns-clause-due c =
    due-pushed c.args.clock c.index.result.now.expiry c.args.place c.args.self.now.queue c.push.new.self (let f = c.from.ensures in let t = c.if-expiry-from.false in omega arith) c.push.ensures.entries
