use Rattle.std.proofs.Common.{◌∙◌, refl}
use Rattle.lookup_tables.proofs.Faults.{only_memory}
use Rattle.lookup_tables.proofs.Places.{insert-gap, in_order-insert, value_of-place, value_of-gap}
use Rattle.lookup_tables.proofs.entries.insert_entry.Goals as goal

pub returns-in_ok-insert-in-Err-clause-ok : goal.returns-in_ok-insert-in-Err-clause-ok
returns-in_ok-insert-in-Err-clause-ok g c =
    let gap = rw c.deref.ensures.value at c.in-Err.ensures in
    c.in_ok-insert-in-Err.ensures.items ∙ insert-gap g.K.Ord.cmp g.met.K.Ord.total c.args.entries.now.items c.args.key c.args.value c.in-Err.place gap

pub returns-in_ok-insert-in-Err-clause-ordered : goal.returns-in_ok-insert-in-Err-clause-ordered
returns-in_ok-insert-in-Err-clause-ordered g c =
    rw (returns-in_ok-insert-in-Err-clause-ok g c) (in_order-insert g.K.Ord.cmp g.met.K.Ord.total c.args.entries.now.items c.args.key c.args.value c.requires)

pub returns-in_ok-insert-in-Err-clause-exists : goal.returns-in_ok-insert-in-Err-clause-exists
returns-in_ok-insert-in-Err-clause-exists g c =
    let gap = rw c.deref.ensures.value at c.in-Err.ensures in
    let none = value_of-gap g.K.Ord.cmp g.met.K.Ord.total c.args.entries.now.items c.args.key c.in-Err.place c.requires gap in
    rw none (λ is. cc, λ has. cc)

pub returns-in_err-insert-in-Err-clause-exists : goal.returns-in_err-insert-in-Err-clause-exists
returns-in_err-insert-in-Err-clause-exists g c =
    let gap = rw c.deref.ensures.value at c.in-Err.ensures in
    let none = value_of-gap g.K.Ord.cmp g.met.K.Ord.total c.args.entries.now.items c.args.key c.in-Err.place c.requires gap in
    rw none (λ is. absurd (only_memory c.from_residual.result c.from_residual.ensures.1 is), λ has. cc)

pub returns-in-Ok-clause-exists : goal.returns-in-Ok-clause-exists
returns-in-Ok-clause-exists g c =
    let place = rw c.deref.ensures.value at c.in-Ok.ensures in
    let some = value_of-place g.K.Ord.cmp g.met.K.Ord.total c.args.entries.now.items c.args.key c.in-Ok.field-0 (c.args.key, 0) place in
    rw some (λ is. refl, λ has. refl)
