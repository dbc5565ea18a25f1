use Rattle.std.proofs.Common.{◌≡◌, ℕ, ◌+◌, ◌∷◌, [], List, length, map-id, sym, ap, ◌∙◌, arith}
use Rattle.std.proofs.lemmas.List.{length-append}
use Rattle.std.proofs.lemmas.Iterator.Adapters.{YieldsList-from_vec}
use Rattle.std.proofs.lemmas.Iterator.Consumers.{YieldsList-end, YieldsList-turn}
use Rattle.eval_engine.specs.Dockets.{DocketValue}
use Rattle.run_audit.specs.JudgingValues.{entries_of_each}
use Rattle.run_audit.proofs.LaneSections.{entries_more}
use Rattle.run_audit.proofs.closing.sections_told.Goals as goal
use Rattle.run_audit.proofs.closing.sections_told.Goals.{After-drop-docket-iterator-2}

pub add_lane-requires : goal.add_lane-requires
add_lane-requires c =
    let gives = c.into_iter-docket-iterator.ensures.into_iter_gives in
    let list = YieldsList-from_vec c.args.dockets.items gives.0 (gives.1 ∙ c.args.dockets.ok.0) in
    let turn = YieldsList-turn list c.loop-docket.yielded c.loop-docket.docket-iterator c.loop-docket.yielded_by c.next.result c.next.new.self c.in-Some.docket c.in-Some.is c.next.ensures.steps in
    let lane : ℕ = length c.loop-docket.sections.trackers.items + 1 in
    c.requires lane (omega arith) (omega (arith, turn.0, c.loop-docket.invariant.count))

pub loop-docket-preserved : goal.loop-docket-preserved
loop-docket-preserved c =
    let before = c.loop-docket.invariant in
    let added = c.in_ok-add_lane.ensures in
    record {
      entries = entries_more c.loop-docket.sections.dockets.items c.loop-docket.yielded c.in-Some.docket _ before.entries added.entries;
      told = added.told before.told;
      count = omega (arith, added.count, before.count, length-append c.loop-docket.yielded (c.in-Some.docket ∷ []));
    }

-- behind the loop all were yielded
whole : (c : After-drop-docket-iterator-2) → c.loop-docket.yielded ≡ c.args.dockets.items
whole c =
    let gives = c.into_iter-docket-iterator.ensures.into_iter_gives in
    let list = YieldsList-from_vec c.args.dockets.items gives.0 (gives.1 ∙ c.args.dockets.ok.0) in
    sym (map-id c.loop-docket.yielded) ∙ (YieldsList-end list c.loop-docket.yielded c.loop-docket.docket-iterator c.loop-docket.yielded_by c.next.result c.next.new.self c.in-None.is c.next.ensures.steps).0

pub returns-clause-entries : goal.returns-clause-entries
returns-clause-entries c = c.loop-docket.invariant.entries ∙ ap (λ (all : List DocketValue). entries_of_each all) (whole c)
