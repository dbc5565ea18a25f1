use Rattle.std.proofs.Common.{◌≡◌, List, length, map, ◌∙◌, ap, sym, subst}
use Rattle.std.specs.List.{AllByRecursion}
use Rattle.generation_store.specs.Published.{Published}
use Rattle.fw_world.specs.Caches.{capacity_of}
use Rattle.fw_world.specs.RecordedHits.{counted_by}
use Rattle.fw_world.specs.Closing.{AreLanesFrom, AreLanesOf, record_of_world}
use Rattle.fw_world.specs.Editions.{AreEditions}
use Rattle.fw_world.specs.Lane.{LaneValue}
use Rattle.fw_world.specs.LaneKept.{IsLane}
use Rattle.fw_world.specs.Lanes.{EachLane, LaneStands, LaneCounts, LaneRises}
use Rattle.fw_world.specs.Legal.{IsLegal, IsLegalButSections}
use Rattle.fw_world.specs.Publications.{IsPublished}
use Rattle.fw_world.specs.RecordValue.{RecordValue}
use Rattle.fw_world.specs.World.{WorldValue, IsLaneOf}
use Rattle.fw_world.proofs.Arranging.{all-stand, length-stand, stand-places}
use Rattle.fw_world.proofs.Recording.{as_many, same_record, lanes-stand, lanes-count, lanes-rise, TellsHits-world}
use Rattle.serial_world.proofs.serial_world.SerialWorld.close.Goals as goal
use Rattle.serial_world.proofs.serial_world.SerialWorld.close.Goals.{After-drop-desk-inside-2}

pub new-requires : goal.new-requires
new-requires c = subst (λ (all : List Published). IsPublished all c.held.inside.book) (sym c.into_all.ensures) c.held.invariant.published

module _ (c : After-drop-desk-inside-2) (ordered : List LaneValue) (are : AreLanesOf c.args.self c.args.lanes.items ordered) where
  lanes : c.ordered.result.items ≡ ordered
  lanes = c.ordered.ensures.lanes ordered are.1

  -- each is as a lane that counts no section more
  kept : AllByRecursion (IsLane 0) ordered
  kept = subst (λ (all : List LaneValue). AllByRecursion (IsLane 0) all) lanes c.filled-columns.ensures.lanes

  -- the lanes are as many as the world's
  many : length ordered ≡ c.args.self.journal.lanes
  many = length-stand (λ (lane : LaneValue). lane.place) 1 c.args.lanes.items ordered are.1 ∙ c.requires.all

  -- in order they have their places
  placed : AreLanesFrom c.args.self 1 ordered
  placed = stand-places (λ (lane : LaneValue). lane.place) 1 c.args.lanes.items ordered are.1 (IsLaneOf c.args.self) are.0

  -- what holds of each lane holds of each in order
  each : (P : LaneValue → Type 0) → AllByRecursion P c.args.lanes.items → AllByRecursion P ordered
  each P all = all-stand (λ (lane : LaneValue). lane.place) 1 c.args.lanes.items ordered are.1 P all

  -- the record is that of the world and its lanes
  same : c.new.result ≡ record_of_world c.args.self ordered
  same =
      let dockets = c.filled-columns.ensures.dockets ∙ ap (λ (all : List LaneValue). map (λ (lane : LaneValue). lane.docket) all) lanes in
      let tallies = c.filled-columns.ensures.tallies ∙ ap (λ (all : List LaneValue). map (λ (lane : LaneValue). lane.tally) all) lanes in
      let trackers = c.filled-columns.ensures.trackers ∙ ap (λ (all : List LaneValue). map (λ (lane : LaneValue). lane.tracker) all) lanes in
      let hits = c.filled-columns.ensures.hits ∙ ap counted_by lanes in
      c.new.ensures.exact
      ∙ same_record _ _ _ _ _ _ _ _ _ _ _ _ (c.into_all.ensures ∙ ap (λ (w : WorldValue). w.editions) (c.held.view_is ∙ c.self.view_is)) (ap (λ (w : WorldValue). w.journal) (c.held.view_is ∙ c.self.view_is)) dockets tallies trackers hits

pub returns-clause-exact : goal.returns-clause-exact
returns-clause-exact c = λ ordered are. same c ordered are

pub returns-clause-legal : goal.returns-clause-legal
returns-clause-legal c = λ ordered first commands inputs are desk stands none.
    let world = c.args.self in
    let editions = subst (λ (all : List Published). AreEditions first commands all) c.requires.desk desk in
    subst (λ (r : RecordValue). AreEditions first commands r.editions → length inputs ≡ r.journal.lanes → EachLane (LaneStands r) 1 inputs r.dockets r.tallies r.trackers
    → EachLane (LaneCounts r) 1 inputs r.dockets r.tallies r.trackers → IsLegal first commands inputs r) (same c ordered are) (c.new.ensures.legal first commands inputs)
    editions (as_many world ordered inputs stands ∙ many c ordered are) (lanes-stand world ordered inputs (placed c ordered are) stands)
    (lanes-count world ordered inputs (placed c ordered are) stands (kept c ordered are) (each c ordered are (λ (lane : LaneValue). lane.loose ≡ 0) none))

pub returns-clause-nearly : goal.returns-clause-nearly
returns-clause-nearly c = λ ordered first commands inputs are desk stands.
    let world = c.args.self in
    let editions = subst (λ (all : List Published). AreEditions first commands all) c.requires.desk desk in
    subst (λ (r : RecordValue). AreEditions first commands r.editions → length inputs ≡ r.journal.lanes → EachLane (LaneStands r) 1 inputs r.dockets r.tallies r.trackers
    → EachLane LaneRises 1 inputs r.dockets r.tallies r.trackers → IsLegalButSections first commands inputs r) (same c ordered are) (c.new.ensures.nearly first commands inputs)
    editions (as_many world ordered inputs stands ∙ many c ordered are) (lanes-stand world ordered inputs (placed c ordered are) stands)
    (lanes-rise world ordered inputs (placed c ordered are) stands (kept c ordered are))

pub returns-clause-hits : goal.returns-clause-hits
returns-clause-hits c = λ ordered cache inputs are rooms stands.
    TellsHits-world c.args.self ordered cache inputs (each c ordered are (λ (lane : LaneValue). capacity_of lane.cache ≡ cache) rooms) stands
