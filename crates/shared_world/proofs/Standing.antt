-- Lanes that stand for what they stood for.
use Rattle.std.proofs.Common.{◌≡◌, ℕ, Option, Some, None, List, [], ◌++◌, false, sym, subst}
use Rattle.std.specs.Prelude.{IfSome}
use Rattle.atomic_table.specs.Seated.{TableId}
use Rattle.cached_verdicts.specs.LaneCache.{LaneCacheValue, HasRecent}
use Rattle.counter_book.specs.declared.tally.Count.{Count}
use Rattle.eval_engine.specs.declared.docket_entry.DocketEntry.{DocketEntry}
use Rattle.fw_world.proofs.Caching.{CacheStandsFor-none}
use Rattle.fw_world.proofs.Judging.{StandFor-entries, StandFor-none}
use Rattle.fw_world.proofs.Seen.{StandForSeen-more}
use Rattle.fw_world.specs.Asks.{LaneAsk, asks_in}
use Rattle.fw_world.specs.Caches.{first_cache, IsCacheSeen}
use Rattle.fw_world.specs.Standing.{StandFor, AreSeenOf, CacheStandsFor}
use Rattle.fw_world.specs.Visits.{lane_visits}
use Rattle.rule_chain.specs.Configuration.{Configuration}
use Rattle.fw_world.specs.declared.lane_work.LaneWork.{LaneWork}
use Rattle.shared_world.specs.Known.{Known}
use Rattle.shared_world.specs.LaneKept.{IsNewSeat}
use Rattle.shared_world.specs.SharedLane.{SharedLane, lane_of, new_lane}
use Rattle.shared_world.specs.Standing.{LaneStandsFor, KeepsStanding}

-- a new lane stands for no input
pub stands-new : (world : TableId) (cache : Option ℕ) (place : ℕ) → LaneStandsFor (new_lane world cache place) []
unfolding LaneStandsFor
stands-new world cache place = λ editions are. record { stands = StandFor-none editions; cached = CacheStandsFor-none editions cache }

-- what a new lane's cache keeps was seen
pub first-seen : (seen : List (ℕ × Configuration)) (cache : Option ℕ) → IsCacheSeen seen (first_cache cache)
first-seen seen None = tt
first-seen seen (Some capacity) = tt

-- the lane of a new seat that has done no work is a new one
pub new-is : (table : TableId) (cache : Option ℕ) (v : Known) (work : LaneWork) → IsNewSeat v → work ≡ record { docket = record { entries = []; refused = 0 }; tally = []; cache = first_cache cache; failed = false; loose = 0 } → lane_of table v work ≡ new_lane table cache v.place
new-is table cache v work is same = λ i. record {
  world = table;
  place = v.place;
  number = is.held i;
  refusal = is.refusal i;
  sections = is.sections i;
  seen = is.pairs i;
  asks = asks_in (is.own i);
  behind_taken = is.behind_taken i;
  book_taken = is.book_taken i;
  docket = (same i).docket;
  tally = (same i).tally;
  cache = (same i).cache;
  failed = (same i).failed;
  loose = (same i).loose;
}

-- a lane that has seen more, and has asked, entered, counted and cached what it had, stands for what it stood for
pub keeps-standing : (before after : SharedLane) (more : List (ℕ × Configuration)) → after.seen ≡ before.seen ++ more → after.asks ≡ before.asks → after.docket.entries ≡ before.docket.entries → after.tally ≡ before.tally → after.cache ≡ before.cache → KeepsStanding before after
unfolding LaneStandsFor
keeps-standing before after more seen asks entries tally cache inputs stands = λ editions are.
    let stood = StandForSeen-more before.seen more before.asks before.docket before.tally before.cache inputs stands editions (subst (λ (all : List (ℕ × Configuration)). AreSeenOf editions all) seen are) in
    record {
      stands = StandFor-entries editions after.asks before.docket after.docket after.tally inputs entries
          (subst (λ (own : List LaneAsk). StandFor editions own before.docket after.tally inputs) (sym asks) (subst (λ (counts : List Count). StandFor editions before.asks before.docket counts inputs) (sym tally) stood.stands));
      cached = subst (λ (own : Option LaneCacheValue). CacheStandsFor editions after.docket own inputs) (sym cache) (subst (λ (entered : List DocketEntry). IfSome before.cache (λ own. HasRecent own.kept.capacity (lane_visits editions inputs entered) own)) (sym entries) stood.cached);
    }
