use Rattle.std.proofs.Common.{◌≡◌, List, [], ◌∷◌, ◌++◌, ℕ, map, sym, ap, ◌∙◌, arith}
use Rattle.std.proofs.lemmas.List.{length-append, map-append}
use Rattle.std.proofs.lemmas.Iterator.{YieldsList-from_zip}
use Rattle.std.proofs.lemmas.Iterator.Adapters.{YieldsList-from_vec}
use Rattle.std.proofs.lemmas.Iterator.Consumers.{YieldsList-end, YieldsList-turn}
use Rattle.std.proofs.lemmas.Slice.Zip.{firsts-zip, seconds-zip}
use Rattle.std.specs.List.{zip}
use Rattle.std.specs.Vec.Iter.{into_iter_items, into_iter_len}
use Rattle.fw_world.specs.Caches.{counted_before}
use Rattle.fw_world.specs.Columns.{ColumnsValue}
use Rattle.fw_world.specs.declared.lane_work.LaneWork.{LaneWork}
use Rattle.shared_world.proofs.Apart.{counted_in-append, map_itself, of_firsts, one_more, zip-length}
use Rattle.shared_world.proofs.closing.filled.Goals as goal
use Rattle.shared_world.specs.Apart.{counted_in}
use Rattle.shared_world.proofs.closing.filled.Goals.{After-drop-work-iterator-2}

-- behind the loop all were yielded
whole : (c : After-drop-work-iterator-2) → c.loop-work.yielded ≡ zip c.args.works.items c.args.trackers.items
whole c =
    let zipped = c.zip-work-items.ensures in
    let works = YieldsList-from_vec c.args.works.items (ap into_iter_items zipped.first ∙ c.into_iter.ensures.rest) (ap into_iter_len zipped.first ∙ c.into_iter.ensures.len ∙ c.args.works.ok.0) in
    let trackers = YieldsList-from_vec c.args.trackers.items zipped.second.0 (zipped.second.1 ∙ c.args.trackers.ok.0) in
    let both = YieldsList-from_zip {s = c.zip-work-items.result} works trackers in
    let all = YieldsList-end both c.loop-work.yielded c.loop-work.work-iterator (rw c.into_iter-work-iterator.ensures.into_iter_gives at c.loop-work.yielded_by) c.next.result c.next.new.self c.in-None.is c.next.ensures.steps in
    sym (map_itself c.loop-work.yielded) ∙ all.0

pub returns-clause-dockets : goal.returns-clause-dockets
returns-clause-dockets c = c.loop-work.invariant.dockets ∙ ap (map (λ (entry : LaneWork × ℕ). entry.0.docket)) (whole c) ∙ of_firsts (λ (work : LaneWork). work.docket) c.args.works.items c.args.trackers.items c.requires.trackers

pub returns-clause-tallies : goal.returns-clause-tallies
returns-clause-tallies c = c.loop-work.invariant.tallies ∙ ap (map (λ (entry : LaneWork × ℕ). entry.0.tally)) (whole c) ∙ of_firsts (λ (work : LaneWork). work.tally) c.args.works.items c.args.trackers.items c.requires.trackers

pub returns-clause-trackers : goal.returns-clause-trackers
returns-clause-trackers c = c.loop-work.invariant.trackers ∙ ap (map (λ (entry : LaneWork × ℕ). entry.1)) (whole c) ∙ seconds-zip c.args.works.items c.args.trackers.items c.requires.trackers

pub returns-clause-hits : goal.returns-clause-hits
returns-clause-hits c = c.loop-work.invariant.hits ∙ ap (λ (all : List (LaneWork × ℕ)). counted_in (map (λ (entry : LaneWork × ℕ). entry.0) all)) (whole c) ∙ ap counted_in (firsts-zip c.args.works.items c.args.trackers.items c.requires.trackers)

pub loop-work-preserved : goal.loop-work-preserved
loop-work-preserved c =
    let zipped = c.zip-work-items.ensures in
    let works = YieldsList-from_vec c.args.works.items (ap into_iter_items zipped.first ∙ c.into_iter.ensures.rest) (ap into_iter_len zipped.first ∙ c.into_iter.ensures.len ∙ c.args.works.ok.0) in
    let trackers = YieldsList-from_vec c.args.trackers.items zipped.second.0 (zipped.second.1 ∙ c.args.trackers.ok.0) in
    let both = YieldsList-from_zip {s = c.zip-work-items.result} works trackers in
    let entry : LaneWork × ℕ = (c.in-Some.work, c.in-Some.tracker) in
    let turn = YieldsList-turn both c.loop-work.yielded c.loop-work.work-iterator (rw c.into_iter-work-iterator.ensures.into_iter_gives at c.loop-work.yielded_by) c.next.result c.next.new.self entry c.in-Some.is c.next.ensures.steps in
    let all = zip-length c.args.works.items c.args.trackers.items c.requires.trackers in
    let before = c.loop-work.invariant in
    record {
      room = let room = ap (λ (columns : ColumnsValue). columns.room) c.add.ensures in omega (arith, room, before.room, turn.0, all, length-append c.loop-work.yielded (entry ∷ []));
      dockets = ap (λ (columns : ColumnsValue). columns.dockets) c.add.ensures ∙ one_more (λ (e : LaneWork × ℕ). e.0.docket) c.loop-work.columns.dockets c.loop-work.yielded entry before.dockets;
      tallies = ap (λ (columns : ColumnsValue). columns.tallies) c.add.ensures ∙ one_more (λ (e : LaneWork × ℕ). e.0.tally) c.loop-work.columns.tallies c.loop-work.yielded entry before.tallies;
      trackers = ap (λ (columns : ColumnsValue). columns.trackers) c.add.ensures ∙ one_more (λ (e : LaneWork × ℕ). e.1) c.loop-work.columns.trackers c.loop-work.yielded entry before.trackers;
      hits =
          ap (λ (columns : ColumnsValue). columns.hits) c.add.ensures ∙ ap (λ (hits : List ℕ). hits ++ counted_before c.in-Some.work.cache []) before.hits
          ∙ sym (counted_in-append (map (λ (e : LaneWork × ℕ). e.0) c.loop-work.yielded) c.in-Some.work)
          ∙ ap counted_in (sym (map-append (λ (e : LaneWork × ℕ). e.0) c.loop-work.yielded (entry ∷ [])));
    }
