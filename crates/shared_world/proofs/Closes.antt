-- The record of a world that closes.
use Rattle.std.proofs.Common.{◌≡◌, ℕ, ◌-◌, List, [], ◌∷◌, length, map, Some, refl, sym, ap, ◌∙◌, subst, arith, Option}
use Rattle.std.proofs.lemmas.List.{length-map}
use Rattle.std.specs.Prelude.{slice_get}
use Rattle.std.specs.List.{AllByRecursion}
use Rattle.atomic_table.specs.Seated.{TableId}
use Rattle.counter_book.specs.declared.tally.Count.{Count}
use Rattle.eval_engine.specs.Dockets.{DocketValue}
use Rattle.fw_rule.specs.declared.command.Command.{Command}
use Rattle.fw_world.proofs.Arranging.{length-stand, stand-places}
use Rattle.fw_world.proofs.Recording.{as_many, lanes-stand, lanes-count, lanes-rise, TellsHits-world}
use Rattle.fw_world.specs.ByPlace.{StandFrom}
use Rattle.fw_world.specs.Closing.{record_of_world}
use Rattle.fw_world.specs.Editions.{AreEditions}
use Rattle.fw_world.specs.Inputs.{Input}
use Rattle.fw_world.specs.Lane.{LaneValue}
use Rattle.fw_world.specs.Lanes.{EachLane, LaneStands, LaneCounts, LaneRises}
use Rattle.fw_world.specs.Legal.{IsLegal, IsLegalButSections}
use Rattle.fw_world.specs.Publications.{IsPublished}
use Rattle.fw_world.specs.RecordValue.{RecordValue}
use Rattle.fw_world.specs.Caches.{capacity_of}
use Rattle.fw_world.specs.RecordedHits.{EachHasRoom, TellsHits}
use Rattle.fw_world.specs.Sections.{tracker_after}
use Rattle.fw_world.specs.declared.lane_work.LaneWork.{LaneWork}
use Rattle.generation_store.specs.Published.{Published}
use Rattle.rm_lock.specs.Ends.{ClosesAs, EndsFor}
use Rattle.rule_chain.specs.Configuration.{Configuration}
use Rattle.state_journal.specs.Journal.{Journal, IsJournal}
use Rattle.shared_world.proofs.Apart.{column, counted-are, placed, works-many}
use Rattle.shared_world.proofs.LastBook as last_book
use Rattle.shared_world.proofs.LastLanes.{each_seat, last_world, are-lanes, are-kept, each-stands, each-asks, trackers-are}
use Rattle.shared_world.specs.Apart.{AreApart, Seat, counted_in}
use Rattle.shared_world.specs.Closing.{AreLanesFrom, AreLanesOf, EachStandsFor, IsRecordOf}
use Rattle.shared_world.specs.DeskKept.{IsSharedDesk}
use Rattle.shared_world.specs.Known.{Known, SharedEdition, means}
use Rattle.shared_world.specs.SharedDesk.{SharedDesk}
use Rattle.shared_world.specs.SharedLane.{SharedLane, plain_lane}
use Rattle.shared_world.specs.Standing.{DeskStandsFor}

-- a column of what lanes are in whichever world
plain_column : {X : Type 0} (f : LaneValue → X) (all : List SharedLane) → map (λ (lane : SharedLane). f (plain_lane lane)) all ≡ map f (map plain_lane all)
plain_column f [] = refl
plain_column f (lane ∷ all) = ap (λ rest. f (plain_lane lane) ∷ rest) (plain_column f all)

plain_loose : (all : List SharedLane) → AllByRecursion (λ (lane : SharedLane). lane.loose ≡ 0) all → AllByRecursion (λ (lane : LaneValue). lane.loose ≡ 0) (map plain_lane all)
plain_loose [] none = tt
plain_loose (lane ∷ all) none = (none.0, plain_loose all none.1)

module _ (world : TableId) (given ordered : List SharedLane) (are : AreLanesOf world given ordered) where
  -- the lanes that were taken apart are those in order
  pub in_order : (taken : List SharedLane) (seats : List Seat) (works : List LaneWork) → ((all : List SharedLane) → StandFrom (λ (lane : SharedLane). lane.place) 1 given all → taken ≡ all) → AreApart taken seats works → AreApart ordered seats works
  in_order taken seats works same apart = subst (λ (all : List SharedLane). AreApart all seats works) (same ordered are.1) apart

  -- they have their places
  pub in_places : AreLanesFrom world 1 ordered
  in_places = stand-places (λ (lane : SharedLane). lane.place) 1 given ordered are.1 (λ (lane : SharedLane). lane.world ≡ world) are.0

  -- they are as many as the desk knows
  pub as_known : (shown inside : SharedDesk) → length given ≡ shown.lanes → inside ≡ shown → length ordered ≡ inside.lanes
  as_known shown inside many same = length-stand (λ (lane : SharedLane). lane.place) 1 given ordered are.1 ∙ many ∙ sym (ap (λ (d : SharedDesk). d.lanes) same)

plain_rooms : (cache : Option ℕ) (all : List SharedLane) → AllByRecursion (λ (lane : SharedLane). capacity_of lane.cache ≡ cache) all → EachHasRoom cache (map plain_lane all)
plain_rooms cache [] rooms = tt
plain_rooms cache (lane ∷ all) rooms = (rooms.0, plain_rooms cache all rooms.1)

module _ (lanes : ℕ) (v : Known) (editions : List Published) (desk : IsSharedDesk lanes v editions) (world : TableId) (all : List SharedLane) (seats : List Seat) (works : List LaneWork) (book : Journal) (trackers : List ℕ) (left : List SharedEdition)
    (are : AreLanesFrom world 1 all) (many : length all ≡ lanes) (apart : AreApart all seats works) (closes : ClosesAs means v seats book trackers left) where
  ends : AllByRecursion (λ (seat : Seat). EndsFor means v book trackers seat.view) seats
  ends = each_seat (λ (seat : Seat). EndsFor means v book trackers seat.view) seats closes.each

  -- the book is that of the editions
  pub is_published : IsJournal book → IsPublished editions book
  is_published is = last_book.publishes lanes editions book (closes.list_0 ∙ desk.own) desk.numbered is

  journal_lanes : book.lanes ≡ lanes
  journal_lanes = last_book.lanes-are lanes editions book (closes.list_0 ∙ desk.own)

  -- there is a tracker word for each lane
  pub many_words : length trackers ≡ length works
  many_words = omega (arith, closes.tracker_count, desk.count, many, works-many all seats works apart)

  words : trackers ≡ map (λ (lane : SharedLane). tracker_after lane.sections) all
  words = trackers-are all seats works trackers apart (omega (arith, closes.tracker_count, desk.count, many)) each
    where
      each : (j : ℕ) (seat : Seat) → slice_get seats j ≡ Some seat → slice_get trackers j ≡ Some (tracker_after seat.view.part.sections)
      each j seat is =
          let at = placed world 1 all seats works are apart j seat is in
          let same : seat.view.place - 1 ≡ j = omega (arith, at.0) in
          subst (λ (k : ℕ). slice_get trackers k ≡ Some (tracker_after seat.view.part.sections)) same (closes.each j seat is).tracker

  -- the record of the world and its lanes
  abbrev pub last_record : RecordValue
  last_record = record_of_world (last_world lanes v editions book trackers desk closes.list_0) (map plain_lane all)

  -- a record of these columns is that one
  pub is_last : (held : List Published) (journal : Journal) (dockets : List DocketValue) (tallies : List (List Count)) (tracked hits : List ℕ) → held ≡ editions → journal ≡ book
      → dockets ≡ map (λ (work : LaneWork). work.docket) works → tallies ≡ map (λ (work : LaneWork). work.tally) works → tracked ≡ trackers → hits ≡ counted_in works
      → (let r : RecordValue = record { editions = held; journal = journal; dockets = dockets; tallies = tallies; trackers = tracked; hits = hits } in r ≡ last_record)
  is_last held journal dockets tallies tracked hits e j d t k h =
      let entered = d ∙ column (λ (lane : SharedLane). lane.docket) (λ (work : LaneWork). work.docket) (λ table seat work. refl) all seats works apart ∙ plain_column (λ (lane : LaneValue). lane.docket) all in
      let counted = t ∙ column (λ (lane : SharedLane). lane.tally) (λ (work : LaneWork). work.tally) (λ table seat work. refl) all seats works apart ∙ plain_column (λ (lane : LaneValue). lane.tally) all in
      let told = k ∙ words ∙ plain_column (λ (lane : LaneValue). lane.tracker) all in
      let hit = h ∙ counted-are all seats works apart in
      rw (e, j, entered, counted, told, hit) refl

  -- it is the record of desk and lanes
  pub is_record : (shown : SharedDesk) → shown.editions ≡ editions → shown.lanes ≡ lanes → IsRecordOf shown all last_record
  is_record shown editions_are lanes_are = record {
    editions = sym editions_are;
    dockets = sym (plain_column (λ (lane : LaneValue). lane.docket) all);
    tallies = sym (plain_column (λ (lane : LaneValue). lane.tally) all);
    trackers = sym (plain_column (λ (lane : LaneValue). lane.tracker) all);
    hits = refl;
    lanes_are = journal_lanes ∙ sym lanes_are;
    asks = each-asks lanes v editions book trackers desk closes.list_0 all seats works apart ends;
  }

  -- it tells the hits of the lanes' packets
  pub tells : (r : RecordValue) → r ≡ last_record → (cache : Option ℕ) (inputs : List (List Input)) → AllByRecursion (λ (lane : SharedLane). capacity_of lane.cache ≡ cache) all → EachStandsFor all inputs → TellsHits cache inputs r
  tells r same cache inputs rooms stand = subst (λ (x : RecordValue). TellsHits cache inputs x) (sym same)
      (TellsHits-world (last_world lanes v editions book trackers desk closes.list_0) (map plain_lane all) cache inputs (plain_rooms cache all rooms) (each-stands lanes v editions book trackers desk closes.list_0 all seats works inputs apart ends stand))

  module _ (shown : SharedDesk) (editions_are : shown.editions ≡ editions) (r : RecordValue) (same : r ≡ last_record) (first : Configuration) (commands : List Command) (inputs : List (List Input)) (accepted : DeskStandsFor shown first commands) (stand : EachStandsFor all inputs) where
    made : AreEditions first commands editions
    unfolding DeskStandsFor
    made = subst (λ (es : List Published). AreEditions first commands es) editions_are accepted

    each : Rattle.fw_world.specs.Closing.EachStandsFor (last_world lanes v editions book trackers desk closes.list_0) (map plain_lane all) inputs
    each = each-stands lanes v editions book trackers desk closes.list_0 all seats works inputs apart ends stand

    all_lanes : length inputs ≡ book.lanes
    all_lanes = as_many (last_world lanes v editions book trackers desk closes.list_0) (map plain_lane all) inputs each ∙ length-map all plain_lane ∙ many ∙ sym journal_lanes

    of_world : Rattle.fw_world.specs.Closing.AreLanesFrom (last_world lanes v editions book trackers desk closes.list_0) 1 (map plain_lane all)
    of_world = are-lanes lanes v editions book trackers desk closes.list_0 world 1 all seats works are apart ends

    -- it is legal where no lane was loose
    pub legal : (AreEditions first commands r.editions → length inputs ≡ r.journal.lanes → EachLane (LaneStands r) 1 inputs r.dockets r.tallies r.trackers → EachLane (LaneCounts r) 1 inputs r.dockets r.tallies r.trackers → IsLegal first commands inputs r)
        → AllByRecursion (λ (lane : SharedLane). lane.loose ≡ 0) all → IsLegal first commands inputs r
    legal clause none = subst (λ (x : RecordValue). IsLegal first commands inputs x) (sym same)
        (subst (λ (x : RecordValue). AreEditions first commands x.editions → length inputs ≡ x.journal.lanes → EachLane (LaneStands x) 1 inputs x.dockets x.tallies x.trackers → EachLane (LaneCounts x) 1 inputs x.dockets x.tallies x.trackers → IsLegal first commands inputs x)
        same clause made all_lanes
        (lanes-stand (last_world lanes v editions book trackers desk closes.list_0) (map plain_lane all) inputs of_world each)
        (lanes-count (last_world lanes v editions book trackers desk closes.list_0) (map plain_lane all) inputs of_world each (are-kept lanes v editions book trackers desk closes.list_0 all seats works apart) (plain_loose all none)))

    -- and but for its sections in any case
    pub nearly : (AreEditions first commands r.editions → length inputs ≡ r.journal.lanes → EachLane (LaneStands r) 1 inputs r.dockets r.tallies r.trackers → EachLane LaneRises 1 inputs r.dockets r.tallies r.trackers → IsLegalButSections first commands inputs r)
        → IsLegalButSections first commands inputs r
    nearly clause = subst (λ (x : RecordValue). IsLegalButSections first commands inputs x) (sym same)
        (subst (λ (x : RecordValue). AreEditions first commands x.editions → length inputs ≡ x.journal.lanes → EachLane (LaneStands x) 1 inputs x.dockets x.tallies x.trackers → EachLane LaneRises 1 inputs x.dockets x.tallies x.trackers → IsLegalButSections first commands inputs x)
        same clause made all_lanes
        (lanes-stand (last_world lanes v editions book trackers desk closes.list_0) (map plain_lane all) inputs of_world each)
        (lanes-rise (last_world lanes v editions book trackers desk closes.list_0) (map plain_lane all) inputs of_world each (are-kept lanes v editions book trackers desk closes.list_0 all seats works apart)))
