-- What a lane stands for.
use Rattle.std.specs.Prelude.{◌≡◌, ℕ, List, Option, Some, IfSome, IsSomeAnd, slice_get}
use Rattle.counter_book.specs.declared.tally.Count.{Count}
use Rattle.eval_engine.specs.Dockets.{DocketValue}
use Rattle.generation_store.specs.Published.{Published, IsBuilt}
use Rattle.rule_chain.specs.Configuration.{Configuration}
use Rattle.cached_verdicts.specs.LaneCache.{LaneCacheValue, HasRecent}
use Rattle.fw_world.specs.Asks.{LaneAsk, AreAsksOf}
use Rattle.fw_world.specs.Editions.{edition_numbered}
use Rattle.fw_world.specs.Entries.{EachRecord, IsEntryFor, IsEvaluated}
use Rattle.fw_world.specs.Inputs.{Input}
use Rattle.fw_world.specs.Tallies.{lane_hits, IsTallyOf}
use Rattle.fw_world.specs.Visits.{lane_visits}

-- A lane's docket and tally are those of these inputs: one entry for each in order, each packet evaluated
-- under its edition with the replies to its asks, the hits counted, and no ask besides.
pub record StandFor (editions : List Published) (asks : List LaneAsk) (docket : DocketValue) (tally : List Count) (inputs : List Input) : Type 0 where
  pub entered : EachRecord IsEntryFor 1 inputs docket.entries
  pub evaluated : EachRecord (IsEvaluated editions asks) 1 inputs docket.entries
  pub tallied : IsTallyOf (lane_hits editions asks 1 inputs docket.entries) tally
  pub asked : AreAsksOf docket.entries asks

-- A lane's cache, if it has one, is behind the packets of these inputs that the lane judged: it keeps the recent
-- keys and has counted the hits.
abbrev pub CacheStandsFor : List Published → DocketValue → Option LaneCacheValue → List Input → Type 0
CacheStandsFor editions docket cache inputs = IfSome cache (λ own. HasRecent own.kept.capacity (lane_visits editions inputs docket.entries) own)

-- A lane's docket, tally and cache are those of these inputs.
pub record StandWithCache (editions : List Published) (asks : List LaneAsk) (docket : DocketValue) (tally : List Count) (cache : Option LaneCacheValue) (inputs : List Input) : Type 0 where
  pub stands : StandFor editions asks docket tally inputs
  pub cached : CacheStandsFor editions docket cache inputs

-- Under each number that was seen these editions have one of the configuration that was seen there.
abbrev pub AreSeenOf : List Published → List (ℕ × Configuration) → Type 0
AreSeenOf editions seen =
    (j number : ℕ) (config : Configuration) → slice_get seen j ≡ Some (number, config) → IsSomeAnd (edition_numbered editions number) (IsBuilt number config)

-- The same said by what the lane saw, without the editions of its world: for every list of editions that has
-- what it saw at its numbers.
abbrev pub StandForSeen : List (ℕ × Configuration) → List LaneAsk → DocketValue → List Count → Option LaneCacheValue → List Input → Type 0
StandForSeen seen asks docket tally cache inputs = (editions : List Published) → AreSeenOf editions seen → StandWithCache editions asks docket tally cache inputs
