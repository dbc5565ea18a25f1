use Rattle.std.proofs.Common.{ℕ, Some, is_some, sym, ap, ◌∙◌}
use Rattle.std.proofs.lemmas.Cmp.{nat_cmp_total}
use Rattle.std.specs.Ordering.{nat_cmp}
use Rattle.lookup_tables.proofs.Networks.{number_same}
use Rattle.lookup_tables.proofs.Places.{value_of-place, value_of-gap, value-HasKey}
use Rattle.lookup_tables.proofs.number_table.NumberTable.find.Goals as goal

pub returns-in-Ok-clause-answer : goal.returns-in-Ok-clause-answer
returns-in-Ok-clause-answer c =
    let place = rw (c.deref.ensures.value, c.self.view_is) at c.in-Ok.ensures in
    let here = rw c.self.view_is at c.index.ensures in
    sym (value_of-place nat_cmp nat_cmp_total c.args.self.now c.args.key c.in-Ok.place c.index.result.now place ∙ ap (λ (e : ℕ × ℕ). Some e.1) (sym here))

pub returns-in-Err-clause-answer : goal.returns-in-Err-clause-answer
returns-in-Err-clause-answer c =
    let gap = rw (c.deref.ensures.value, c.self.view_is) at c.in-Err.ensures in
    sym (value_of-gap nat_cmp nat_cmp_total c.args.self.now c.args.key c.in-Err.field-0 (rw c.self.view_is at c.self.invariant) gap)

pub returns-in-Err-clause-there : goal.returns-in-Err-clause-there
returns-in-Err-clause-there c =
    let gap = rw (c.deref.ensures.value, c.self.view_is) at c.in-Err.ensures in
    let none = value_of-gap nat_cmp nat_cmp_total c.args.self.now c.args.key c.in-Err.field-0 (rw c.self.view_is at c.self.invariant) gap in
    (λ some. cc, λ has. let missing = ap is_some none in let some = value-HasKey nat_cmp nat_cmp_total number_same c.args.self.now c.args.key has in cc)
