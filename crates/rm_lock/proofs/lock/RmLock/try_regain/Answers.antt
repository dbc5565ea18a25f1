use Rattle.std.proofs.Common.{rules}
use Rattle.rm_table.specs.Meanings.{meanings}
use Rattle.rm_lock.proofs.Tries.{regains_at_once}
use Rattle.rm_lock.proofs.lock.RmLock.try_regain.Goals as goal

pub returns-in-Taken : goal.returns-in-Taken
returns-in-Taken g c = record {
  tried = (
    search rules,
    regains_at_once (meanings g.E.Numbered g.B.Kept) c.args.p c.p.inside.seat.table_id c.p.inside.seat.me c.take_back.new.seat.me c.read_number-published.new.seat.me c.regain.new.seat.me c.give_back.new.seat.me c.read_number-published.result c.p.view_is c.p.invariant.idle.processor c.in-Taken.ensures.step c.read_number-published.ensures.step c.regain.ensures.step c.give_back.ensures.step,
  );
}
