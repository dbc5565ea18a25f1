use Rattle.states_tests.proofs.books.publication_drops_states.Goals as goal

pub ask-requires-clause-rule : goal.ask-requires-clause-rule
ask-requires-clause-rule g c = c.lookup.ensures.rule _

pub ask-requires-3-clause-rule : goal.ask-requires-3-clause-rule
ask-requires-3-clause-rule g c = c.lookup-2.ensures.rule _

pub ask-requires-4-clause-rule : goal.ask-requires-4-clause-rule
ask-requires-4-clause-rule g c = c.lookup-3.ensures.rule _
