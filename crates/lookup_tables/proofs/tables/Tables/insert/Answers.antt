use Rattle.std.proofs.Common.{ℕ, List, Some, ◌∙◌, sym, ap, set}
use Rattle.std.proofs.lemmas.Cmp.{nat_list_cmp_total}
use Rattle.lookup_tables.specs.declared.table.Table.{Table}
use Rattle.lookup_tables.specs.Tables.{name_cmp}
use Rattle.lookup_tables.proofs.Places.{replace-place, insert-gap, in_order-insert, value_of-place, value_of-gap}
use Rattle.lookup_tables.proofs.tables.Tables.insert.Goals as goal

pub returns-in-Ok-clause-before : goal.returns-in-Ok-clause-before
returns-in-Ok-clause-before c =
    let place = rw (c.deref.ensures.value, c.self.view_is) at c.in-Ok.ensures in
    let here = rw c.self.view_is at c.index_mut.ensures.value in
    ap (λ (t : Table). Some t) c.replace.ensures.value
    ∙ sym (value_of-place name_cmp nat_list_cmp_total c.args.self.now c.args.name c.in-Ok.place c.index_mut.result.now place ∙ ap (λ (e : List ℕ × Table). Some e.1) (sym here))

pub returns-in-Ok-clause-ok : goal.returns-in-Ok-clause-ok
returns-in-Ok-clause-ok c =
    let place = rw (c.deref.ensures.value, c.self.view_is) at c.in-Ok.ensures in
    let here = rw c.self.view_is at c.index_mut.ensures.value in
    rw (c.self.view_is, c.replace.ensures.after) (ap (λ (e : List ℕ × Table). set c.args.self.now c.in-Ok.place (e.0, c.args.table)) here
    ∙ replace-place name_cmp nat_list_cmp_total c.args.self.now c.args.name c.args.table c.in-Ok.place c.index_mut.result.now place)

pub invariant_of-self : goal.invariant_of-self
invariant_of-self c =
    rw (returns-in-Ok-clause-ok c) (in_order-insert name_cmp nat_list_cmp_total c.args.self.now c.args.name c.args.table (rw c.self.view_is at c.self.invariant))

pub returns-in_ok-insert-in-Err-clause-ok : goal.returns-in_ok-insert-in-Err-clause-ok
returns-in_ok-insert-in-Err-clause-ok c =
    let gap = rw (c.deref.ensures.value, c.self.view_is) at c.in-Err.ensures in
    c.in_ok-insert-in-Err.ensures.items ∙ rw c.self.view_is (insert-gap name_cmp nat_list_cmp_total c.args.self.now c.args.name c.args.table c.in-Err.place gap)

pub returns-in_ok-insert-in-Err-clause-before : goal.returns-in_ok-insert-in-Err-clause-before
returns-in_ok-insert-in-Err-clause-before c =
    let gap = rw (c.deref.ensures.value, c.self.view_is) at c.in-Err.ensures in
    sym (value_of-gap name_cmp nat_list_cmp_total c.args.self.now c.args.name c.in-Err.place (rw c.self.view_is at c.self.invariant) gap)

pub invariant_of-self-in-Err : goal.invariant_of-self-in-Err
invariant_of-self-in-Err c =
    rw (returns-in_ok-insert-in-Err-clause-ok c) (in_order-insert name_cmp nat_list_cmp_total c.args.self.now c.args.name c.args.table (rw c.self.view_is at c.self.invariant))
