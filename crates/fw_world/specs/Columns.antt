-- What the lanes of a run leave, column by column.
use Rattle.std.specs.Prelude.{ℕ, ◌-◌, Option, List, [], ◌∷◌, ◌++◌}
use Rattle.counter_book.specs.declared.tally.Count.{Count}
use Rattle.eval_engine.specs.Dockets.{DocketValue}
use Rattle.cached_verdicts.specs.LaneCache.{LaneCacheValue}
use Rattle.fw_world.specs.Caches.{counted_before}

-- dockets, tallies and tracker words in the order of the lanes, hits of those that have a cache, and room for
-- so many lanes more
pub record ColumnsValue : Type 0 where
  pub dockets : List DocketValue
  pub tallies : List (List Count)
  pub trackers : List ℕ
  pub hits : List ℕ
  pub room : ℕ

-- columns of no lane
abbrev pub no_columns : ℕ → ColumnsValue
no_columns room = record { dockets = []; tallies = []; trackers = []; hits = []; room = room }

-- the columns with one lane more, which takes up the room of one
abbrev pub with_lane : DocketValue → List Count → Option LaneCacheValue → ℕ → ColumnsValue → ColumnsValue
with_lane docket tally cache tracker columns = record {
  dockets = columns.dockets ++ docket ∷ [];
  tallies = columns.tallies ++ tally ∷ [];
  trackers = columns.trackers ++ tracker ∷ [];
  hits = columns.hits ++ counted_before cache [];
  room = columns.room - 1;
}
