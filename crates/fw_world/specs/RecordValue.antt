-- What a run leaves.
use Rattle.std.specs.Prelude.{ℕ, List}
use Rattle.counter_book.specs.declared.tally.Count.{Count}
use Rattle.eval_engine.specs.Dockets.{DocketValue}
use Rattle.generation_store.specs.Published.{Published}
use Rattle.state_journal.specs.Journal.{Journal}

-- the editions in the order of their publication, the journal of the states, for each lane its docket, its
-- tally and its tracker word, and the hits of each lane where the lanes have a cache
pub record RecordValue : Type 0 where
  pub editions : List Published
  pub journal : Journal
  pub dockets : List DocketValue
  pub tallies : List (List Count)
  pub trackers : List ℕ
  pub hits : List ℕ
