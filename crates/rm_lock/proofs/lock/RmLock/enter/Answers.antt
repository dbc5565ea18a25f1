use Rattle.std.proofs.Common.{rules}
use Rattle.rm_table.specs.Meanings.{meanings}
use Rattle.rm_lock.proofs.Told.{told_in}
use Rattle.rm_lock.proofs.lock.RmLock.enter.Goals as goal

pub invariant_of-result : goal.invariant_of-result
invariant_of-result g c = record {
  processor = search rules;
  inside = search rules;
  unheld = search rules;
  bookless = search rules;
  hand_is = search rules;
  reading = search rules;
  place_is = search rules;
  number_is = search rules;
  refused_is = search rules;
  told_is = told_in (meanings g.E.Numbered g.B.Kept) c.raise.new.seat.me c.check.new.seat.me c.take_edition-edition.new.seat.me _ c.in-Held.ensures.step c.take_edition-edition.ensures.now;
}
