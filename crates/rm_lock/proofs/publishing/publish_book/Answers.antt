use Rattle.rm_table.specs.Meanings.{meanings}
use Rattle.rm_lock.proofs.Publications.{taken_in, may_publish, may_give, may_give_back, publishes}
use Rattle.rm_lock.proofs.publishing.publish_book.Goals as goal

pub publish-requires-2-clause-editions : goal.publish-requires-2-clause-editions
publish-requires-2-clause-editions g c =
    let t = taken_in (meanings g.E.Numbered g.B.Kept) c.args.seat.now.me c.take_free_book-book.new.seat.me c.put_book.new.seat.me c.turn.new.self.me c.requires.editions.0 c.args.facts (g.B.Kept.facts_number c.args.facts) c.take_free_book-book.result c.publish.new.self c.requires.writing c.requires.editions.1 c.requires.editions.2 c.requires.editions.3 c.requires.facts c.take_free_book-book.ensures.taken c.publish.ensures.number c.publish.ensures.tag c.publish.ensures.item c.publish.ensures.others c.put_book.ensures.now c.turn.ensures.turned in
    may_publish (meanings g.E.Numbered g.B.Kept) c.args.seat.now.me c.turn.new.self.me c.requires.editions.0 c.args.facts t

pub give_book-requires-clause-book : goal.give_book-requires-clause-book
give_book-requires-clause-book g c =
    let t = taken_in (meanings g.E.Numbered g.B.Kept) c.args.seat.now.me c.take_free_book-book.new.seat.me c.put_book.new.seat.me c.turn.new.self.me c.requires.editions.0 c.args.facts (g.B.Kept.facts_number c.args.facts) c.take_free_book-book.result c.publish.new.self c.requires.writing c.requires.editions.1 c.requires.editions.2 c.requires.editions.3 c.requires.facts c.take_free_book-book.ensures.taken c.publish.ensures.number c.publish.ensures.tag c.publish.ensures.item c.publish.ensures.others c.put_book.ensures.now c.turn.ensures.turned in
    may_give (meanings g.E.Numbered g.B.Kept) c.args.seat.now.me c.turn.new.self.me c.publish-2.new.seat.me c.requires.editions.0 c.args.facts t c.publish-2.ensures.step

pub give_back-requires-clause-working : goal.give_back-requires-clause-working
give_back-requires-clause-working g c =
    let t = taken_in (meanings g.E.Numbered g.B.Kept) c.args.seat.now.me c.take_free_book-book.new.seat.me c.put_book.new.seat.me c.turn.new.self.me c.requires.editions.0 c.args.facts (g.B.Kept.facts_number c.args.facts) c.take_free_book-book.result c.publish.new.self c.requires.writing c.requires.editions.1 c.requires.editions.2 c.requires.editions.3 c.requires.facts c.take_free_book-book.ensures.taken c.publish.ensures.number c.publish.ensures.tag c.publish.ensures.item c.publish.ensures.others c.put_book.ensures.now c.turn.ensures.turned in
    (may_give_back (meanings g.E.Numbered g.B.Kept) c.args.seat.now.me c.turn.new.self.me c.publish-2.new.seat.me c.give_book.new.seat.me c.requires.editions.0 c.args.facts t c.publish-2.ensures.step c.give_book.ensures.step).working

pub give_back-requires-clause-behind : goal.give_back-requires-clause-behind
give_back-requires-clause-behind g c =
    let t = taken_in (meanings g.E.Numbered g.B.Kept) c.args.seat.now.me c.take_free_book-book.new.seat.me c.put_book.new.seat.me c.turn.new.self.me c.requires.editions.0 c.args.facts (g.B.Kept.facts_number c.args.facts) c.take_free_book-book.result c.publish.new.self c.requires.writing c.requires.editions.1 c.requires.editions.2 c.requires.editions.3 c.requires.facts c.take_free_book-book.ensures.taken c.publish.ensures.number c.publish.ensures.tag c.publish.ensures.item c.publish.ensures.others c.put_book.ensures.now c.turn.ensures.turned in
    (may_give_back (meanings g.E.Numbered g.B.Kept) c.args.seat.now.me c.turn.new.self.me c.publish-2.new.seat.me c.give_book.new.seat.me c.requires.editions.0 c.args.facts t c.publish-2.ensures.step c.give_book.ensures.step).behind

pub give_back-requires-clause-unrevoked : goal.give_back-requires-clause-unrevoked
give_back-requires-clause-unrevoked g c =
    let t = taken_in (meanings g.E.Numbered g.B.Kept) c.args.seat.now.me c.take_free_book-book.new.seat.me c.put_book.new.seat.me c.turn.new.self.me c.requires.editions.0 c.args.facts (g.B.Kept.facts_number c.args.facts) c.take_free_book-book.result c.publish.new.self c.requires.writing c.requires.editions.1 c.requires.editions.2 c.requires.editions.3 c.requires.facts c.take_free_book-book.ensures.taken c.publish.ensures.number c.publish.ensures.tag c.publish.ensures.item c.publish.ensures.others c.put_book.ensures.now c.turn.ensures.turned in
    λ _. (may_give_back (meanings g.E.Numbered g.B.Kept) c.args.seat.now.me c.turn.new.self.me c.publish-2.new.seat.me c.give_book.new.seat.me c.requires.editions.0 c.args.facts t c.publish-2.ensures.step c.give_book.ensures.step).unrevoked

pub returns-clause-hand : goal.returns-clause-hand
returns-clause-hand g c =
    let t = taken_in (meanings g.E.Numbered g.B.Kept) c.args.seat.now.me c.take_free_book-book.new.seat.me c.put_book.new.seat.me c.turn.new.self.me c.requires.editions.0 c.args.facts (g.B.Kept.facts_number c.args.facts) c.take_free_book-book.result c.publish.new.self c.requires.writing c.requires.editions.1 c.requires.editions.2 c.requires.editions.3 c.requires.facts c.take_free_book-book.ensures.taken c.publish.ensures.number c.publish.ensures.tag c.publish.ensures.item c.publish.ensures.others c.put_book.ensures.now c.turn.ensures.turned in
    (publishes (meanings g.E.Numbered g.B.Kept) c.args.seat.now.me c.turn.new.self.me c.publish-2.new.seat.me c.give_book.new.seat.me c.give_back.new.seat.me c.requires.editions.0 c.args.facts t c.publish-2.ensures.step c.give_book.ensures.step c.give_back.ensures.step).1

pub returns-clause-published : goal.returns-clause-published
returns-clause-published g c = λ editions count hand next.
    let t = taken_in (meanings g.E.Numbered g.B.Kept) c.args.seat.now.me c.take_free_book-book.new.seat.me c.put_book.new.seat.me c.turn.new.self.me editions c.args.facts (g.B.Kept.facts_number c.args.facts) c.take_free_book-book.result c.publish.new.self c.requires.writing count hand next c.requires.facts c.take_free_book-book.ensures.taken c.publish.ensures.number c.publish.ensures.tag c.publish.ensures.item c.publish.ensures.others c.put_book.ensures.now c.turn.ensures.turned in
    (publishes (meanings g.E.Numbered g.B.Kept) c.args.seat.now.me c.turn.new.self.me c.publish-2.new.seat.me c.give_book.new.seat.me c.give_back.new.seat.me editions c.args.facts t c.publish-2.ensures.step c.give_book.ensures.step c.give_back.ensures.step).0
