use Rattle.std.proofs.Common.{◌≡◌, ℕ, ◌++◌, ◌∷◌, [], List, map, map-id, ap, sym, ◌∙◌, subst, arith}
use Rattle.std.proofs.lemmas.List.{map-append, length-append}
use Rattle.std.proofs.lemmas.Iterator.Adapters.{YieldsList-from_vec}
use Rattle.std.proofs.lemmas.Iterator.Consumers.{YieldsList-end, YieldsList-turn}
use Rattle.std.specs.List.{AllByRecursion}
use Rattle.fw_base.proofs.Lists.{all_push}
use Rattle.fw_world.specs.Caches.{counted_before}
use Rattle.fw_world.specs.Columns.{ColumnsValue}
use Rattle.fw_world.specs.RecordedHits.{counted_by}
use Rattle.fw_world.proofs.Recording.{counted_by-append}
use Rattle.fw_world.specs.Lane.{LaneValue}
use Rattle.fw_world.specs.LaneKept.{IsLane}
use Rattle.serial_world.proofs.closing.filled.Goals as goal
use Rattle.serial_world.proofs.closing.filled.Goals.{After-drop-lane-iterator}

-- a column of one lane more
pushed : {X : Type 0} (f : LaneValue → X) (column : List X) (lanes : List LaneValue) (lane : LaneValue) → column ≡ map f lanes → column ++ f lane ∷ [] ≡ map f (lanes ++ lane ∷ [])
pushed f column lanes lane is = ap (λ some. some ++ f lane ∷ []) is ∙ sym (map-append f lanes (lane ∷ []))

pub add_lane-requires : goal.add_lane-requires
add_lane-requires c =
    let gives = c.into_iter-lane-iterator.ensures.into_iter_gives in
    let list = YieldsList-from_vec c.args.lanes.items gives.0 (gives.1 ∙ c.args.lanes.ok.0) in
    let turn = YieldsList-turn list c.loop-lane.yielded c.loop-lane.lane-iterator c.loop-lane.yielded_by c.next.result c.next.new.self c.in-Some.lane c.in-Some.is c.next.ensures.steps in
    omega (arith, turn.0, c.loop-lane.invariant.room)

pub loop-lane-preserved : goal.loop-lane-preserved
loop-lane-preserved c =
    let gives = c.into_iter-lane-iterator.ensures.into_iter_gives in
    let list = YieldsList-from_vec c.args.lanes.items gives.0 (gives.1 ∙ c.args.lanes.ok.0) in
    let turn = YieldsList-turn list c.loop-lane.yielded c.loop-lane.lane-iterator c.loop-lane.yielded_by c.next.result c.next.new.self c.in-Some.lane c.in-Some.is c.next.ensures.steps in
    let before = c.loop-lane.invariant in
    let lane = c.in-Some.lane in
    let added = sym c.add_lane.ensures.added in
    record {
      room = let room = ap (λ (columns : ColumnsValue). columns.room) c.add_lane.ensures.added in omega (arith, room, before.room, turn.0, length-append c.loop-lane.yielded (lane ∷ []));
      dockets = subst (λ (columns : ColumnsValue). columns.dockets ≡ map (λ (lane : LaneValue). lane.docket) (c.loop-lane.yielded ++ lane ∷ [])) added (pushed (λ lane. lane.docket) c.loop-lane.columns.dockets c.loop-lane.yielded lane before.dockets);
      tallies = subst (λ (columns : ColumnsValue). columns.tallies ≡ map (λ (lane : LaneValue). lane.tally) (c.loop-lane.yielded ++ lane ∷ [])) added (pushed (λ lane. lane.tally) c.loop-lane.columns.tallies c.loop-lane.yielded lane before.tallies);
      trackers = subst (λ (columns : ColumnsValue). columns.trackers ≡ map (λ (lane : LaneValue). lane.tracker) (c.loop-lane.yielded ++ lane ∷ [])) added (pushed (λ lane. lane.tracker) c.loop-lane.columns.trackers c.loop-lane.yielded lane before.trackers);
      hits = subst (λ (columns : ColumnsValue). columns.hits ≡ counted_by (c.loop-lane.yielded ++ lane ∷ [])) added
          (ap (λ (counts : List ℕ). counts ++ counted_before lane.cache []) before.hits ∙ sym (counted_by-append c.loop-lane.yielded lane));
      kept = all_push (IsLane 0) c.loop-lane.yielded lane before.kept c.add_lane.ensures.lane;
    }

-- behind the loop all were yielded
whole : (c : After-drop-lane-iterator) → c.loop-lane.yielded ≡ c.args.lanes.items
whole c =
    let gives = c.into_iter-lane-iterator.ensures.into_iter_gives in
    let list = YieldsList-from_vec c.args.lanes.items gives.0 (gives.1 ∙ c.args.lanes.ok.0) in
    sym (map-id c.loop-lane.yielded) ∙ (YieldsList-end list c.loop-lane.yielded c.loop-lane.lane-iterator c.loop-lane.yielded_by c.next.result c.next.new.self c.in-None.is c.next.ensures.steps).0

pub returns-clause-dockets : goal.returns-clause-dockets
returns-clause-dockets c = c.loop-lane.invariant.dockets ∙ ap (map (λ (lane : LaneValue). lane.docket)) (whole c)

pub returns-clause-hits : goal.returns-clause-hits
returns-clause-hits c = c.loop-lane.invariant.hits ∙ ap counted_by (whole c)

pub returns-clause-tallies : goal.returns-clause-tallies
returns-clause-tallies c = c.loop-lane.invariant.tallies ∙ ap (map (λ (lane : LaneValue). lane.tally)) (whole c)

pub returns-clause-trackers : goal.returns-clause-trackers
returns-clause-trackers c = c.loop-lane.invariant.trackers ∙ ap (map (λ (lane : LaneValue). lane.tracker)) (whole c)

pub returns-clause-lanes : goal.returns-clause-lanes
returns-clause-lanes c = subst (AllByRecursion (IsLane 0)) (whole c) c.loop-lane.invariant.kept
