-- What contracts see of a lane: who judges the records of one capture.
use Rattle.std.specs.Prelude.{ℕ, ◌+◌, ◌-◌, ◌^◌, min, Bool, true, false, Option, List, [], ◌∷◌, ◌++◌}
use Rattle.counter_book.specs.declared.tally.Count.{Count}
use Rattle.cached_verdicts.specs.LaneCache.{LaneCacheValue}
use Rattle.eval_engine.specs.Dockets.{DocketValue}
use Rattle.eval_engine.specs.declared.docket_entry.DocketEntry.{DocketEntry}

-- Its place, from 1; the edition that it last held or regained; a refusal that it hasn't regained from; its
-- tracker word; its docket and tally; its cache, where it has one, with the port of the packets that it judged;
-- whether want of memory failed it; and how many sections it left without a judgement or tried to begin while a
-- refusal stood, which stands still at the end of 64 bits.
pub record LaneValue : Type 0 where
  pub place : ℕ
  pub number : ℕ
  pub refusal : Option ℕ
  pub tracker : ℕ
  pub docket : DocketValue
  pub tally : List Count
  pub cache : Option LaneCacheValue
  pub failed : Bool
  pub loose : ℕ

-- one more, and no further than 64 bits go
abbrev pub one_looser : Bool → ℕ → ℕ
one_looser false loose = loose
one_looser true loose = min (loose + 1) (2 ^ 64 - 1)

-- the lane's docket with one entry more
abbrev pub with_docket_entry : DocketEntry → LaneValue → LaneValue
with_docket_entry entry lane = record lane { docket = record lane.docket { entries = lane.docket.entries ++ entry ∷ [] } }
