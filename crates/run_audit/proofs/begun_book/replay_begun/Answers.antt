use Rattle.run_audit.proofs.JournalSteps.{begun_kept, none_replayed, published_last, replayed_so}
use Rattle.run_audit.proofs.begun_book.replay_begun.Goals as goal

pub replay_line-requires-clause-published : goal.replay_line-requires-clause-published
replay_line-requires-clause-published c = published_last _ _ c.requires.under

pub returns-clause-replayed : goal.returns-clause-replayed
returns-clause-replayed c = λ ok. replayed_so _ _ _ _ c.requires.under.some (c.replay_line.ensures.replayed ok)

pub returns-clause-wrong : goal.returns-clause-wrong
returns-clause-wrong c = λ wrong. none_replayed _ _ _ c.requires.under.some (c.replay_line.ensures.wrong wrong)

pub returns-clause-under : goal.returns-clause-under
returns-clause-under c = λ ok. begun_kept _ _ _ _ (c.replay_line.ensures.replayed ok) c.requires.under
