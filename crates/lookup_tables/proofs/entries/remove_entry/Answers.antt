use Rattle.std.proofs.Common.{◌∙◌, sym, refl}
use Rattle.lookup_tables.proofs.Places.{remove-place, in_order-remove, without_key-gap, value_of-place, value_of-gap}
use Rattle.lookup_tables.proofs.entries.remove_entry.Goals as goal

pub returns-in-Ok-clause-after : goal.returns-in-Ok-clause-after
returns-in-Ok-clause-after g c =
    let place = rw c.deref.ensures.value at c.in-Ok.ensures in
    c.remove.ensures.items ∙ remove-place g.K.Ord.cmp g.met.K.Ord.total c.args.entries.now.items c.args.key.now c.in-Ok.place place

pub returns-in-Ok-clause-ordered : goal.returns-in-Ok-clause-ordered
returns-in-Ok-clause-ordered g c =
    rw (returns-in-Ok-clause-after g c) (in_order-remove g.K.Ord.cmp g.met.K.Ord.total c.args.entries.now.items c.args.key.now c.requires)

pub returns-in-Ok-clause-there : goal.returns-in-Ok-clause-there
returns-in-Ok-clause-there g c =
    let place = rw c.deref.ensures.value at c.in-Ok.ensures in
    let some = value_of-place g.K.Ord.cmp g.met.K.Ord.total c.args.entries.now.items c.args.key.now c.in-Ok.place (c.args.key.now, 0) place in
    rw some (λ is. refl, λ has. refl)

pub returns-in-Err-clause-there : goal.returns-in-Err-clause-there
returns-in-Err-clause-there g c =
    let gap = rw c.deref.ensures.value at c.in-Err.ensures in
    let none = value_of-gap g.K.Ord.cmp g.met.K.Ord.total c.args.entries.now.items c.args.key.now c.in-Err.field-0 c.requires gap in
    rw none (λ is. cc, λ has. cc)

pub returns-in-Err-clause-after : goal.returns-in-Err-clause-after
returns-in-Err-clause-after g c =
    let gap = rw c.deref.ensures.value at c.in-Err.ensures in
    sym (without_key-gap g.K.Ord.cmp g.met.K.Ord.total c.args.entries.now.items c.args.key.now c.in-Err.field-0 c.requires gap)
