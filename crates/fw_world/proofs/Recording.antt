-- The record of a world and its lanes is legal.
use Rattle.std.proofs.Common.{◌≡◌, ℕ, suc, ◌+◌, ◌-◌, ◌≤◌, List, [], ◌∷◌, ◌++◌, length, map, Option, Some, None, refl, sym, ap, ◌∙◌, subst, arith}
use Rattle.std.specs.Prelude.{IfSome, unwrap_or, ⊤}
use Rattle.std.specs.List.{AllByRecursion}
use Rattle.counter_book.specs.declared.tally.Count.{Count}
use Rattle.eval_engine.specs.Dockets.{DocketValue}
use Rattle.state_asks.specs.declared.facts.Facts.{Facts}
use Rattle.fw_rule.specs.declared.command.Command.{Command}
use Rattle.rule_chain.specs.Configuration.{Configuration}
use Rattle.generation_store.specs.Published.{Published}
use Rattle.state_journal.specs.Entries.{AreOfLanes}
use Rattle.state_journal.specs.Journal.{Journal, IsJournal}
use Rattle.fw_world.specs.Asks.{lane_asks}
use Rattle.fw_world.specs.Closing.{AreLanesFrom, EachStandsFor, record_of_world}
use Rattle.fw_world.specs.Lanes.{LaneRises, EachLane, LaneStands, LaneCounts}
use Rattle.fw_world.specs.Legal.{IsLegalButSections, IsLegal}
use Rattle.fw_world.specs.Editions.{AreEditions}
use Rattle.fw_world.specs.Inputs.{Input}
use Rattle.fw_world.specs.Lane.{LaneValue}
use Rattle.fw_world.specs.LaneKept.{IsLane}
use Rattle.cached_verdicts.specs.LaneCache.{LaneCacheValue}
use Rattle.fw_world.specs.Caches.{capacity_of, counted_before}
use Rattle.fw_world.specs.Standing.{StandFor, CacheStandsFor}
use Rattle.fw_world.specs.Publications.{IsLawful, IsPublished, facts_of}
use Rattle.fw_world.specs.RecordValue.{RecordValue}
use Rattle.fw_world.specs.RecordedHits.{lane_hits_of, hits_of_each, TellsHits, EachHasRoom, counted_by}
use Rattle.fw_world.specs.Sections.{AreSections, judged_editions, tracker_after}
use Rattle.fw_world.specs.World.{WorldValue, published_count, IsLaneOf}
use Rattle.state_journal.specs.Journal as journal

-- a fact of each lane's columns
each_lane : (P : ℕ → List Input → DocketValue → List Count → ℕ → Type 0) (Q : LaneValue → Type 0) (world : WorldValue) (place : ℕ) (lanes : List LaneValue) (inputs : List (List Input)) → AreLanesFrom world place lanes → EachStandsFor world lanes inputs
    → ((lane : LaneValue) (met : List Input) → IsLaneOf world lane → Q lane → StandFor world.editions (lane_asks lane.place world.journal.entries) lane.docket lane.tally met → P lane.place met lane.docket lane.tally lane.tracker)
    → AllByRecursion Q lanes
    → EachLane P place inputs (map (λ (lane : LaneValue). lane.docket) lanes) (map (λ (lane : LaneValue). lane.tally) lanes) (map (λ (lane : LaneValue). lane.tracker) lanes)
each_lane P Q world place [] [] are stands one all = tt
each_lane P Q world place [] (met ∷ inputs) are stands one all = absurd stands
each_lane P Q world place (lane ∷ lanes) [] are stands one all = absurd stands
each_lane P Q world place (lane ∷ lanes) (met ∷ inputs) are stands one all = (
  subst (λ (n : ℕ). P n met lane.docket lane.tally lane.tracker) are.0 (one lane met are.1 all.0 stands.0.stands),
  each_lane P Q world (place + 1) lanes inputs are.2 stands.1 one all.1,
)

of_any : (lanes : List LaneValue) → AllByRecursion (λ (lane : LaneValue). ⊤) lanes
of_any [] = tt
of_any (lane ∷ lanes) = (tt, of_any lanes)

both : (P Q : LaneValue → Type 0) (lanes : List LaneValue) → AllByRecursion P lanes → AllByRecursion Q lanes → AllByRecursion (λ lane. P lane × Q lane) lanes
both P Q [] first second = tt
both P Q (lane ∷ lanes) first second = ((first.0, second.0), both P Q lanes first.1 second.1)

-- as many lanes as lists of inputs
pub as_many : (world : WorldValue) (lanes : List LaneValue) (inputs : List (List Input)) → EachStandsFor world lanes inputs → length inputs ≡ length lanes
as_many world [] [] stands = refl
as_many world [] (met ∷ inputs) stands = absurd stands
as_many world (lane ∷ lanes) [] stands = absurd stands
as_many world (lane ∷ lanes) (met ∷ inputs) stands = ap suc (as_many world lanes inputs stands.1)

-- the sections of a lane that none left loose
AreSections-lane : (world : WorldValue) (lane : LaneValue) → IsLaneOf world lane → IsLane 0 lane → lane.loose ≡ 0 → AreSections (published_count world) lane.docket lane.tracker
AreSections-lane world lane of_world is none = record {
  rising = is.rising;
  few = few lane.refusal of_world.heard (is.few none);
  tracked = let same : length (judged_editions lane.docket.entries) + lane.docket.refused + 0 ≡ length (judged_editions lane.docket.entries) + lane.docket.refused = omega arith in is.tracked none ∙ ap tracker_after same;
}
  where
    few : (refusal : Option ℕ) → IfSome refusal (λ number. number ≤ published_count world) → lane.docket.refused + 1 ≤ unwrap_or refusal lane.number → lane.docket.refused ≤ published_count world - 1
    few None heard most = omega (arith, of_world.held, most)
    few (Some number) heard most = omega (arith, heard, most)

-- the record of these parts
abbrev pub record_of : List Published → Journal → List DocketValue → List (List Count) → List ℕ → List ℕ → RecordValue
record_of editions journal dockets tallies trackers hits = record { editions = editions; journal = journal; dockets = dockets; tallies = tallies; trackers = trackers; hits = hits }

-- records of the same parts are the same
pub same_record : (editions other : List Published) (journal same : Journal) (dockets entered : List DocketValue) (tallies counted : List (List Count)) (trackers words hits found : List ℕ)
    → editions ≡ other → journal ≡ same → dockets ≡ entered → tallies ≡ counted → trackers ≡ words → hits ≡ found → record_of editions journal dockets tallies trackers hits ≡ record_of other same entered counted words found
same_record editions other journal same dockets entered tallies counted trackers words hits found e j d t k h = rw (e, j, d, t, k, h) refl

-- a lane that has a cache counts its hits before those of others
counts_before : (capacity : ℕ) (editions : List Published) (docket : DocketValue) (cache : Option LaneCacheValue) (inputs : List Input) (counts : List ℕ) → capacity_of cache ≡ Some capacity → CacheStandsFor editions docket cache inputs
    → counted_before cache counts ≡ lane_hits_of capacity editions inputs docket ∷ counts
counts_before capacity editions docket None inputs counts room stands = cc
counts_before capacity editions docket (Some own) inputs counts room stands =
    let same : own.kept.capacity ≡ capacity = cc in
    ap (λ (n : ℕ). n ∷ counts) (stands.hits ∙ ap (λ (n : ℕ). lane_hits_of n editions inputs docket) same)

counts_nothing : (cache : Option LaneCacheValue) (counts : List ℕ) → capacity_of cache ≡ None → counted_before cache counts ≡ counts
counts_nothing None counts room = refl
counts_nothing (Some own) counts room = cc

-- the hits of one lane more
pub counted_by-append : (lanes : List LaneValue) (lane : LaneValue) → counted_by (lanes ++ lane ∷ []) ≡ counted_by lanes ++ counted_before lane.cache []
counted_by-append [] lane = refl
counted_by-append (first ∷ lanes) lane = ap (counted_before first.cache) (counted_by-append lanes lane) ∙ before first.cache
  where
    before : (cache : Option LaneCacheValue) → counted_before cache (counted_by lanes ++ counted_before lane.cache []) ≡ counted_before cache (counted_by lanes) ++ counted_before lane.cache []
    before None = refl
    before (Some own) = refl

-- The hits that the lanes' caches have counted are those of the lanes' packets.
pub TellsHits-world : (world : WorldValue) (lanes : List LaneValue) (cache : Option ℕ) (inputs : List (List Input)) → EachHasRoom cache lanes → EachStandsFor world lanes inputs → TellsHits cache inputs (record_of_world world lanes)
TellsHits-world world lanes None inputs rooms stands = none lanes rooms
  where
    none : (lanes : List LaneValue) → EachHasRoom None lanes → counted_by lanes ≡ []
    none [] rooms = refl
    none (lane ∷ lanes) rooms = counts_nothing lane.cache (counted_by lanes) rooms.0 ∙ none lanes rooms.1
TellsHits-world world lanes (Some capacity) inputs rooms stands = each lanes inputs rooms stands
  where
    each : (lanes : List LaneValue) (inputs : List (List Input)) → EachHasRoom (Some capacity) lanes → EachStandsFor world lanes inputs → counted_by lanes ≡ hits_of_each capacity world.editions inputs (map (λ (lane : LaneValue). lane.docket) lanes)
    each [] [] rooms stands = refl
    each [] (met ∷ inputs) rooms stands = absurd stands
    each (lane ∷ lanes) [] rooms stands = absurd stands
    each (lane ∷ lanes) (met ∷ inputs) rooms stands =
        counts_before capacity world.editions lane.docket lane.cache met (counted_by lanes) rooms.0 stands.0.cached
        ∙ ap (λ (counts : List ℕ). lane_hits_of capacity world.editions met lane.docket ∷ counts) (each lanes inputs rooms.1 stands.1)

module _ (world : WorldValue) (lanes : List LaneValue) (inputs : List (List Input)) (are : AreLanesFrom world 1 lanes) (stands : EachStandsFor world lanes inputs) where
  -- each lane of a world stands for its inputs in the world's record
  pub lanes-stand : EachLane (LaneStands (record_of_world world lanes)) 1 inputs (record_of_world world lanes).dockets (record_of_world world lanes).tallies (record_of_world world lanes).trackers
  lanes-stand = each_lane (LaneStands (record_of_world world lanes)) (λ lane. ⊤) world 1 lanes inputs are stands (λ lane met of_world one stand. stand) (of_any lanes)

  module _ (kept : AllByRecursion (IsLane 0) lanes) where
    -- its sections are counted where none is loose
    pub lanes-count : AllByRecursion (λ (lane : LaneValue). lane.loose ≡ 0) lanes
        → EachLane (LaneCounts (record_of_world world lanes)) 1 inputs (record_of_world world lanes).dockets (record_of_world world lanes).tallies (record_of_world world lanes).trackers
    lanes-count none =
        each_lane (LaneCounts (record_of_world world lanes)) (λ lane. IsLane 0 lane × (lane.loose ≡ 0)) world 1 lanes inputs are stands (λ lane met of_world one stand. AreSections-lane world lane of_world one.0 one.1)
        (both (IsLane 0) (λ lane. lane.loose ≡ 0) lanes kept none)

    -- its editions never fall
    pub lanes-rise : EachLane LaneRises 1 inputs (record_of_world world lanes).dockets (record_of_world world lanes).tallies (record_of_world world lanes).trackers
    lanes-rise = each_lane LaneRises (IsLane 0) world 1 lanes inputs are stands (λ lane met of_world one stand. one.rising) kept

-- what a record takes of its editions and its journal
module _ (r : RecordValue) (first : Configuration) (commands : List Command) (inputs : List (List Input)) (is : IsPublished r.editions r.journal) (book : IsJournal r.journal)
    (editions : AreEditions first commands r.editions) (all : length inputs ≡ r.journal.lanes) (stands : EachLane (LaneStands r) 1 inputs r.dockets r.tallies r.trackers) where
  lawful : IsLawful r.editions r.journal.entries
  lawful = record {
    begins = book.begins;
    replied = subst (λ (facts : List Facts). journal.IsLawfulFrom journal.no_states facts r.journal.entries) (sym is.factual) book.lawful;
  }

  object : r.journal.object ≡ journal.object_from journal.no_states (facts_of r.editions) r.journal.entries
  object = book.object ∙ ap (λ (facts : List Facts). journal.object_from journal.no_states facts r.journal.entries) (sym is.factual)

  of_lanes : AreOfLanes (length inputs) r.journal.entries
  of_lanes = subst (λ (n : ℕ). AreOfLanes n r.journal.entries) (sym all) book.asked

  -- a record of a world's editions, of its journal and of lanes that stand for their inputs is legal
  pub IsLegal-record : EachLane (LaneCounts r) 1 inputs r.dockets r.tallies r.trackers → IsLegal first commands inputs r
  IsLegal-record sections = record {
    editions = editions;
    published = is.once;
    lawful = lawful;
    object = object;
    lanes = stands;
    asked = of_lanes;
    sections = sections;
  }

  -- and but for its sections in any case
  pub IsLegalButSections-record : EachLane LaneRises 1 inputs r.dockets r.tallies r.trackers → IsLegalButSections first commands inputs r
  IsLegalButSections-record rising = record {
    editions = editions;
    published = is.once;
    lawful = lawful;
    object = object;
    lanes = stands;
    asked = of_lanes;
    rising = rising;
  }
