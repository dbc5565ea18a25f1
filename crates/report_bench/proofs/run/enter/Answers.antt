use Rattle.state_journal.specs.Journal.{last_rules}
use Rattle.report_bench.proofs.run.enter.Goals as goal

pub ask-requires-clause-rule : goal.ask-requires-clause-rule
ask-requires-clause-rule c = c.lookup.ensures.rule (last_rules c.args.book.now.facts)
