use Rattle.std.proofs.Common.{◌≡◌, ◌+◌, ◌∷◌, ◌++◌, [], List, length, take, ap, sym, ◌∙◌, arith}
use Rattle.std.proofs.lemmas.List.{take_more, length-take}
use Rattle.dyn_states.specs.declared.state.State.{State}
use Rattle.dyn_states.specs.Slots.{slot, no_state}
use Rattle.dyn_states.proofs.LeadsLaws.{slot-read}
use Rattle.dyn_states.proofs.TableLaws.{Leads-push, Serves-push}
use Rattle.dyn_states.proofs.state_table.StateTable.enter.Goals as goal

pub returns-clause-parts : goal.returns-clause-parts
returns-clause-parts c =
    let all : List State = c.args.self.now.slots.items in
    let front : List State = take c.args.place all in
    let is : c.index.result.now ≡ slot all c.args.place = slot-read all c.args.place c.index.result.now c.requires.place c.index.ensures in
    let long : c.args.place ≡ length front = omega (arith, length-take {A = State}) in
    let more : take (c.args.place + 1) all ≡ front ++ c.index.result.now ∷ [] = take_more all c.args.place no_state c.requires.place ∙ ap (λ (x : State). front ++ x ∷ []) (sym is) in
    record {
      leads = rw more (Leads-push front c.index.result.now c.args.self.now.lines c.put.new.self c.requires.parts.leads (rw (← is) at c.requires.first) (rw (c.line_of.ensures, long) at c.put.ensures.places) (rw c.line_of.ensures at c.put.ensures.names.0) c.put.ensures.names.1 c.put.ensures.ends c.put.ensures.count);
      serves = rw more (Serves-push front c.index.result.now c.args.self.now.queue c.push.new.self c.requires.parts.serves (rw long at c.push.ensures.entries) (c.push.ensures.order c.requires.parts.serves.order));
    }
