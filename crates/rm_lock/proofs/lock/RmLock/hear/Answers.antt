use Rattle.std.proofs.Common.{rules}
use Rattle.rm_lock.proofs.Told.{told_by, hears}
use Rattle.rm_lock.proofs.lock.RmLock.hear.Goals as goal

pub invariant_of-result : goal.invariant_of-result
invariant_of-result g c = hears c.p.inside.place c.p.inside.number c.p.inside.told c.max.result c.r.inside.number c.p.inside.refused c.p.inside.seat.me c.r.inside.seat.me c.join_seat.new.into.me c.p.invariant c.r.invariant (c.join_seat.ensures.heard (search rules)) (search rules)

pub returns-clause-told : goal.returns-clause-told
returns-clause-told g c = told_by c.args.p c.args.r c.p.inside.seat.table_id c.r.inside.seat.table_id c.r.inside.number c.p.inside.seat.me c.r.inside.seat.me c.join_seat.new.into.me c.p.view_is c.r.view_is c.r.invariant (c.join_seat.ensures.heard (search rules))
