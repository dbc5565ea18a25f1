use Rattle.lock_bench.proofs.ask.look_up.Goals as goal

pub ask-requires-clause-rule : goal.ask-requires-clause-rule
ask-requires-clause-rule c = c.lookup.ensures.rule _
