use Rattle.std.proofs.Common.{ℕ, List, Some, sym, ap, ◌∙◌}
use Rattle.std.proofs.lemmas.Cmp.{nat_list_cmp_total}
use Rattle.lookup_tables.specs.declared.table.Table.{Table}
use Rattle.lookup_tables.specs.Tables.{name_cmp}
use Rattle.lookup_tables.proofs.Places.{value_of-place, value_of-gap}
use Rattle.lookup_tables.proofs.tables.Tables.shared.Goals as goal

pub returns-in-Ok : goal.returns-in-Ok
returns-in-Ok c =
    let place = rw (c.deref.ensures.value, c.self.view_is) at c.in-Ok.ensures in
    let here = rw c.self.view_is at c.index.ensures in
    sym (value_of-place name_cmp nat_list_cmp_total c.args.self.now c.args.name.now c.in-Ok.place c.index.result.now place ∙ ap (λ (e : List ℕ × Table). Some e.1) (sym here))

pub returns-in-Err : goal.returns-in-Err
returns-in-Err c =
    let gap = rw (c.deref.ensures.value, c.self.view_is) at c.in-Err.ensures in
    sym (value_of-gap name_cmp nat_list_cmp_total c.args.self.now c.args.name.now c.in-Err.field-0 (rw c.self.view_is at c.self.invariant) gap)
