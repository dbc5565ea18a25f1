use Rattle.state_journal.specs.Journal.{last_rules}
use Rattle.report_tests.proofs.reports.books.ask_lookup.Goals as goal

pub ask-requires-clause-rule : goal.ask-requires-clause-rule
ask-requires-clause-rule g c = c.lookup.ensures.rule (last_rules c.args.book.now.facts)
