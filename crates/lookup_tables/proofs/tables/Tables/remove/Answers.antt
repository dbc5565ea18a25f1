use Rattle.std.proofs.Common.{ℕ, List, Some, ◌∙◌, sym, ap}
use Rattle.lookup_tables.specs.declared.table.Table.{Table}
use Rattle.lookup_tables.specs.Tables.{name_cmp}
use Rattle.std.proofs.lemmas.Cmp.{nat_list_cmp_total}
use Rattle.lookup_tables.proofs.Places.{remove-place, in_order-remove, without_key-gap, value_of-place, value_of-gap}
use Rattle.lookup_tables.proofs.tables.Tables.remove.Goals as goal

pub returns-in-Ok-clause-after : goal.returns-in-Ok-clause-after
returns-in-Ok-clause-after c =
    let place = rw (c.deref.ensures.value, c.self.view_is) at c.in-Ok.ensures in
    c.remove-table.ensures.items ∙ rw c.self.view_is (remove-place name_cmp nat_list_cmp_total c.args.self.now c.args.name.now c.in-Ok.place place)

pub invariant_of-self : goal.invariant_of-self
invariant_of-self c =
    rw (returns-in-Ok-clause-after c) (in_order-remove name_cmp nat_list_cmp_total c.args.self.now c.args.name.now (rw c.self.view_is at c.self.invariant))

pub returns-in-Ok-clause-value : goal.returns-in-Ok-clause-value
returns-in-Ok-clause-value c =
    let place = rw (c.deref.ensures.value, c.self.view_is) at c.in-Ok.ensures in
    let here = rw c.self.view_is at c.remove-table.ensures.value in
    sym (value_of-place name_cmp nat_list_cmp_total c.args.self.now c.args.name.now c.in-Ok.place c.remove-table.result place ∙ ap (λ (e : List ℕ × Table). Some e.1) (sym here))

pub returns-in-Err-clause-value : goal.returns-in-Err-clause-value
returns-in-Err-clause-value c =
    let gap = rw (c.deref.ensures.value, c.self.view_is) at c.in-Err.ensures in
    sym (value_of-gap name_cmp nat_list_cmp_total c.args.self.now c.args.name.now c.in-Err.field-0 (rw c.self.view_is at c.self.invariant) gap)

pub returns-in-Err-clause-after : goal.returns-in-Err-clause-after
returns-in-Err-clause-after c =
    let gap = rw (c.deref.ensures.value, c.self.view_is) at c.in-Err.ensures in
    sym (without_key-gap name_cmp nat_list_cmp_total c.args.self.now c.args.name.now c.in-Err.field-0 (rw c.self.view_is at c.self.invariant) gap)
