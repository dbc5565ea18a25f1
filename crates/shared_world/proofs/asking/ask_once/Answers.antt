use Rattle.std.proofs.Common.{subst, sym}
use Rattle.state_journal.specs.Items.{last_facts}
use Rattle.state_journal.specs.Journal.{Journal, NamesRuleOf}
use Rattle.shared_world.proofs.Visits.{takes_now, names, fits, as_taken, asked, missed, counted}
use Rattle.shared_world.proofs.asking.ask_once.Goals as goal

pub ask-reply-requires-clause-rule : goal.ask-reply-requires-clause-rule
ask-reply-requires-clause-rule g c =
    subst (λ (j : Journal). NamesRuleOf (last_facts j.facts).rules c.args.op.now) (sym c.book.ensures.value)
    (names c.args.reading.view c.take_book-holding.result.view c.take_book-holding.result.book c.take_book-holding.ensures.taken c.requires.reads c.args.op.now c.requires.rule)

pub give_book-requires-clause-left : goal.give_book-requires-clause-left
give_book-requires-clause-left g c =
    as_taken c.args.reading.view c.take_book-holding.result.view c.book.result.now
    (takes_now c.args.reading.view c.take_book-holding.result.view c.take_book-holding.result.book c.book.result.now c.book.ensures.value c.take_book-holding.ensures.taken)
    c.args.lane c.args.at c.args.op.now c.ask-reply.new.self c.ask-reply.result c.requires.lane c.requires.of_book.first
    c.ask-reply.ensures.entered c.ask-reply.ensures.unchanged

pub returns-clause-asked : goal.returns-clause-asked
returns-clause-asked g c =
    asked c.args.reading.view c.take_book-holding.result.view c.book.result.now
    (takes_now c.args.reading.view c.take_book-holding.result.view c.take_book-holding.result.book c.book.result.now c.book.ensures.value c.take_book-holding.ensures.taken)
    c.args.lane c.args.at c.args.op.now c.ask-reply.new.self c.ask-reply.result c.requires.lane c.requires.of_book.first
    c.ask-reply.ensures.entered c.ask-reply.ensures.unchanged c.give_book.result.view c.give_book.ensures.given c.ask-reply.ensures.journal

pub returns-clause-missed : goal.returns-clause-missed
returns-clause-missed g c =
    missed c.args.reading.view c.take_book-holding.result.view c.book.result.now
    (takes_now c.args.reading.view c.take_book-holding.result.view c.take_book-holding.result.book c.book.result.now c.book.ensures.value c.take_book-holding.ensures.taken)
    c.args.lane c.args.at c.args.op.now c.ask-reply.new.self c.ask-reply.result c.requires.lane c.requires.of_book.first
    c.ask-reply.ensures.entered c.ask-reply.ensures.unchanged c.give_book.result.view c.give_book.ensures.given

pub returns-clause-fits : goal.returns-clause-fits
returns-clause-fits g c =
    fits c.args.reading.view c.take_book-holding.result.view c.book.result.now
    (takes_now c.args.reading.view c.take_book-holding.result.view c.take_book-holding.result.book c.book.result.now c.book.ensures.value c.take_book-holding.ensures.taken)
    c.requires.reads c.args.op.now c.ask-reply.result c.ask-reply.ensures.reply c.ask-reply.ensures.found

pub returns-clause-counted : goal.returns-clause-counted
returns-clause-counted g c =
    counted c.args.reading.view c.take_book-holding.result.view c.book.result.now
    (takes_now c.args.reading.view c.take_book-holding.result.view c.take_book-holding.result.book c.book.result.now c.book.ensures.value c.take_book-holding.ensures.taken)
    c.args.lane c.args.at c.args.op.now c.ask-reply.new.self c.ask-reply.result c.requires.lane c.requires.of_book.first
    c.ask-reply.ensures.entered c.ask-reply.ensures.unchanged c.give_book.result.view c.give_book.ensures.given c.ask-reply.ensures.counted
