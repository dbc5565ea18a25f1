use Rattle.std.proofs.Common.{◌≡◌, ◌<◌, Some, None, ap, sym, ◌∙◌, arith, length, true, false}
use Rattle.state_asks.specs.declared.op.FlowName.TheVariants.{Named}
use Rattle.dyn_states.specs.StateObject as object
use Rattle.dyn_states.specs.Lines.{place_of, line_of}
use Rattle.dyn_states.specs.Slots.{holds_one, slot}
use Rattle.dyn_states.specs.StateTable.{slots_of}
use Rattle.dyn_states.proofs.LeadsLaws.{slot-read}
use Rattle.dyn_states.proofs.PlaceLaws.{nowhere, stale, at_place}
use Rattle.dyn_states.proofs.state_table.StateTable.place_named.Goals as goal

pub returns-in-None : goal.returns-in-None
returns-in-None c =
    let leads : place_of c.args.self.now.lines (line_of c.args.flow.now c.args.number) ≡ None = ap (place_of c.args.self.now.lines) (sym c.line_of.ensures) ∙ (sym c.place_of.ensures ∙ c.in-None.is) in
    nowhere (slots_of c.args.self.now) c.args.self.now.lines c.args.flow.now c.args.number c.requires.leads leads

pub returns-then-len-place : goal.returns-then-len-place
returns-then-len-place c =
    let leads : place_of c.args.self.now.lines (line_of c.args.flow.now c.args.number) ≡ Some c.in-Some.place = ap (place_of c.args.self.now.lines) (sym c.line_of.ensures) ∙ (sym c.place_of.ensures ∙ c.in-Some.is) in
    stale (slots_of c.args.self.now) c.args.self.now.lines c.args.flow.now c.args.number c.in-Some.place c.requires.leads leads (λ inside. absurd (let l = c.len.ensures in let t = c.if-len-place.true in omega arith))

pub returns-then-is_holding : goal.returns-then-is_holding
returns-then-is_holding c =
    let leads : place_of c.args.self.now.lines (line_of c.args.flow.now c.args.number) ≡ Some c.in-Some.place = ap (place_of c.args.self.now.lines) (sym c.line_of.ensures) ∙ (sym c.place_of.ensures ∙ c.in-Some.is) in
    let inside : c.in-Some.place < length (slots_of c.args.self.now) = let l = c.len.ensures in let t = c.if-len-place.false in omega arith in
    let is : c.index.result.now ≡ slot (slots_of c.args.self.now) c.in-Some.place = slot-read (slots_of c.args.self.now) c.in-Some.place c.index.result.now inside c.index.ensures in
    let holds : holds_one (object.considers c.args.flow.now (Named c.args.number)) (slot (slots_of c.args.self.now) c.in-Some.place) ≡ true = ap (holds_one (object.considers c.args.flow.now (Named c.args.number))) (sym is) ∙ (sym c.is_holding.ensures ∙ c.if-is_holding.true) in
    at_place (slots_of c.args.self.now) c.args.self.now.lines c.args.flow.now c.args.number c.in-Some.place c.requires.leads leads inside holds

pub returns-else-is_holding : goal.returns-else-is_holding
returns-else-is_holding c =
    let leads : place_of c.args.self.now.lines (line_of c.args.flow.now c.args.number) ≡ Some c.in-Some.place = ap (place_of c.args.self.now.lines) (sym c.line_of.ensures) ∙ (sym c.place_of.ensures ∙ c.in-Some.is) in
    let holds : c.in-Some.place < length (slots_of c.args.self.now) → holds_one (object.considers c.args.flow.now (Named c.args.number)) (slot (slots_of c.args.self.now) c.in-Some.place) ≡ false = λ inside. ap (holds_one (object.considers c.args.flow.now (Named c.args.number))) (sym (slot-read (slots_of c.args.self.now) c.in-Some.place c.index.result.now inside c.index.ensures)) ∙ (sym c.is_holding.ensures ∙ c.if-is_holding.false) in
    stale (slots_of c.args.self.now) c.args.self.now.lines c.args.flow.now c.args.number c.in-Some.place c.requires.leads leads holds
