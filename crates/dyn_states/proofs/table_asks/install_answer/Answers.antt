use Rattle.std.proofs.Common.{◌≡◌, ap, ◌∙◌, Some, None, false, true, refl}
use Rattle.std.specs.List.{list_any}
use Rattle.state_asks.specs.declared.op.FlowName.TheVariants.{Named}
use Rattle.dyn_states.specs.Slots.{IsFirstPlace, slot}
use Rattle.dyn_states.specs.StateObject as object
use Rattle.dyn_states.specs.StateObject.{install_reply, limit_count, or_full}
use Rattle.dyn_states.specs.StateTable.{slots_of, states_of, object_of}
use Rattle.fw_rule.specs.Values.{values_of}
use Rattle.dyn_states.proofs.SlotLaws.{find-none, find-held, list_any-find, list_any-find_none}
use Rattle.dyn_states.proofs.table_asks.install_answer.Goals as goal

pub returns-in-Some-clause-reply : goal.returns-in-Some-clause-reply
unfolding install_reply
returns-in-Some-clause-reply c =
    let test = object.considers c.args.flow.now (Named c.args.name) in
    let first : IsFirstPlace test (slots_of c.args.table.now) (Some c.in-Some.field-0) = rw c.in-Some.is at c.place_of.ensures in
    let found = find-held test (slots_of c.args.table.now) c.in-Some.field-0 first.0 first.1 first.2 in
    let some : list_any test (states_of c.args.table.now) ≡ true = list_any-find test (states_of c.args.table.now) (slot (slots_of c.args.table.now) c.in-Some.field-0) found in
    rw some refl

pub returns-in-None-clause-reply : goal.returns-in-None-clause-reply
unfolding install_reply limit_count
returns-in-None-clause-reply c =
    let test = object.considers c.args.flow.now (Named c.args.name) in
    let first : IsFirstPlace test (slots_of c.args.table.now) None = rw c.in-None.is at c.place_of.ensures in
    let none : list_any test (states_of c.args.table.now) ≡ false = list_any-find_none test (states_of c.args.table.now) (find-none test (slots_of c.args.table.now) first) in
    rw none (c.or_room.ensures.value ∙ ap (or_full (object_of c.args.table.now 0 (values_of c.args.settings.now))) c.limit_answer.ensures.value)

pub returns-in-None-clause-first : goal.returns-in-None-clause-first
returns-in-None-clause-first c =
    let test = object.considers c.args.flow.now (Named c.args.name) in
    let first : IsFirstPlace test (slots_of c.args.table.now) None = rw c.in-None.is at c.place_of.ensures in
    λ created. list_any-find_none test (states_of c.args.table.now) (find-none test (slots_of c.args.table.now) first)
