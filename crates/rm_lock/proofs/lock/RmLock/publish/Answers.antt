use Rattle.std.proofs.Common.{rules, ap, ◌∙◌}
use Rattle.rm_table.specs.Meanings.{meanings}
use Rattle.rm_lock.proofs.Publications.{rests_again, may_write, old_again, published_for, is_writing}
use Rattle.rm_lock.proofs.lock.RmLock.publish.Goals as goal

pub publish_book-requires-clause-editions : goal.publish_book-requires-clause-editions
publish_book-requires-clause-editions g c =
    let may = may_write (meanings g.E.Numbered g.B.Kept) c.args.w c.w.inside.seat.table_id c.w.inside.seat.me c.exchange_all.new.seat.me c.args.editions.items c.args.facts c.w.view_is c.exchange_all.ensures.now (search rules) c.requires.next in
    (c.args.editions.items, may.0, may.1, may.2)

pub invariant_of-result : goal.invariant_of-result
invariant_of-result g c =
    let may = may_write (meanings g.E.Numbered g.B.Kept) c.args.w c.w.inside.seat.table_id c.w.inside.seat.me c.exchange_all.new.seat.me c.args.editions.items c.args.facts c.w.view_is c.exchange_all.ensures.now (search rules) c.requires.next in
    let same = ap (λ z. z.0) c.exchange_all.ensures.now in
    rests_again (meanings g.E.Numbered g.B.Kept) c.exchange_all.new.seat.me.0 c.publish_book.new.seat.me.0 c.publish_book.new.seat.me.1 c.args.editions.items c.args.facts c.w.inside.processors c.w.inside.number c.w.invariant.few
    (ap (λ v. v.count) same ∙ c.w.invariant.count_is) (ap (λ v. v.number) same ∙ c.w.invariant.number_is) (is_writing (meanings g.E.Numbered g.B.Kept) c.w.inside.processors c.w.inside.number c.w.inside.seat.me c.exchange_all.new.seat.me c.w.invariant same)
    (c.publish_book.ensures.published c.args.editions.items may.0 may.1 may.2) c.publish_book.ensures.hand

pub returns-clause-published : goal.returns-clause-published
returns-clause-published g c =
    let may = may_write (meanings g.E.Numbered g.B.Kept) c.args.w c.w.inside.seat.table_id c.w.inside.seat.me c.exchange_all.new.seat.me c.args.editions.items c.args.facts c.w.view_is c.exchange_all.ensures.now (search rules) c.requires.next in
    published_for (meanings g.E.Numbered g.B.Kept) c.args.w c.w.inside.seat.table_id c.w.inside.seat.me c.exchange_all.new.seat.me c.args.editions.items c.args.facts c.publish_book.new.seat.me.0 c.w.view_is c.exchange_all.ensures.now (c.publish_book.ensures.published c.args.editions.items may.0 may.1 may.2)

pub returns-clause-old : goal.returns-clause-old
returns-clause-old g c = old_again (meanings g.E.Numbered g.B.Kept) c.args.w c.w.inside.seat.table_id c.w.inside.processors c.w.inside.number c.w.inside.seat.me c.exchange_all.new.editions.items c.w.view_is c.w.invariant c.exchange_all.ensures.was
