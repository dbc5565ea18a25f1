use Rattle.state_journal.proofs.Growing.{IsJournal-first}
use Rattle.state_journal.proofs.book.Book.open.Goals as goal

pub invariant_of-result : goal.invariant_of-result
invariant_of-result c = (
  rw (c.in_ok-push-2.ensures.items, c.in_ok-push.ensures.items, c.new-all.ensures.items, c.new-entries.ensures.items, c.in_ok-states.ensures.object)
      (IsJournal-first c.args.lanes c.args.facts c.requires.number),
  c.in_ok-states.ensures.room,
  λ ready. cc,
  c.requires.lanes.1,
)
