-- What is left of a run to be reported.
use Rattle.std.specs.Prelude.{ℕ, List}
use Rattle.counter_book.specs.declared.tally.Count.{Count}
use Rattle.eval_engine.specs.Dockets.{DocketValue}
use Rattle.generation_store.specs.Published.{Published}
use Rattle.state_journal.specs.Journal.{Journal}

-- The editions in the order of their publication; the journal of the states; for each lane what was
-- entered for its records, what it counted, and its tracker's word; and the hits of each lane's cache,
-- none where no cache was asked for.
pub record Recorded : Type 0 where
  pub editions : List Published
  pub journal : Journal
  pub dockets : List DocketValue
  pub tallies : List (List Count)
  pub trackers : List ℕ
  pub hits : List ℕ
