use Rattle.std.proofs.Common.{refl}
use Rattle.lookup_tables.proofs.Places.{value_of-place, value_of-gap}
use Rattle.lookup_tables.proofs.entries.has_key.Goals as goal

pub returns-in-Ok : goal.returns-in-Ok
returns-in-Ok g c =
    let some = value_of-place g.K.Ord.cmp g.met.K.Ord.total c.args.entries.now c.args.key.now c.in-Ok.field-0 (c.args.key.now, 0) c.in-Ok.ensures in
    rw some (λ is. refl, λ has. refl)

pub returns-in-Err : goal.returns-in-Err
returns-in-Err g c =
    let none = value_of-gap g.K.Ord.cmp g.met.K.Ord.total c.args.entries.now c.args.key.now c.in-Err.field-0 c.requires c.in-Err.ensures in
    rw none (λ is. cc, λ has. cc)
