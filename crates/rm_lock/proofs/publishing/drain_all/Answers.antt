use Rattle.std.proofs.Common.{rules, arith, ◌≡◌, ◌+◌, ◌-◌, ℕ, subst}
use Rattle.rm_table.specs.Meanings.{meanings}
use Rattle.rm_lock.proofs.Marks.{draining_none, draining_one, draining_all, Draining}
use Rattle.rm_lock.proofs.publishing.drain_all.Goals as goal

pub loop-done-init : goal.loop-done-init
loop-done-init g c = (search rules, search rules, draining_none (meanings g.E.Numbered g.B.Kept) (c.args.processors - 0) c.args.seat.now.me c.requires.operator c.requires.undrained (let e = c.requires.count in omega arith) c.requires.hand)

pub loop-done-preserved : goal.loop-done-preserved
loop-done-preserved g c = (
  search rules,
  search rules,
  draining_one (meanings g.E.Numbered g.B.Kept) (c.args.processors - c.loop-done.done) (c.args.processors - (c.loop-done.done + 1)) c.args.seat.now.me c.loop-done.seat.me c.drain.new.seat.me (let low = c.loop-done-test.true in omega arith) (let size = c.requires.size in omega arith) c.drain.ensures.out c.loop-done.invariant.2,
)

pub returns-clause-found : goal.returns-clause-found
returns-clause-found g c =
    let none : c.args.processors - c.loop-done.done ≡ 0 = let past = c.loop-done-test.false in omega arith in
    draining_all (meanings g.E.Numbered g.B.Kept) c.args.seat.now.me c.loop-done.seat.me (subst (λ (p : ℕ). Draining (meanings g.E.Numbered g.B.Kept) p c.args.seat.now.me c.loop-done.seat.me) none c.loop-done.invariant.2)
