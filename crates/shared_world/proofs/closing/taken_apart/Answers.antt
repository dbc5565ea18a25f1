use Rattle.std.proofs.Common.{sym, ◌∙◌, arith}
use Rattle.std.proofs.lemmas.Iterator.Adapters.{YieldsList-from_vec}
use Rattle.std.proofs.lemmas.Iterator.Consumers.{YieldsList-turn}
use Rattle.shared_world.proofs.Apart.{AreApart-push, seats-many, works-many}
use Rattle.shared_world.proofs.closing.taken_apart.Goals as goal

pub push_reserved-requires : goal.push_reserved-requires
push_reserved-requires c =
    let gives = c.into_iter-lane-iterator.ensures.into_iter_gives in
    let list = YieldsList-from_vec c.args.lanes.items gives.0 (gives.1 ∙ c.args.lanes.ok.0) in
    let turn = YieldsList-turn list c.loop-lane.yielded c.loop-lane.lane-iterator c.loop-lane.yielded_by c.next.result c.next.new.self c.in-Some.lane c.in-Some.is c.next.ensures.steps in
    let many = seats-many c.loop-lane.yielded c.loop-lane.processors.items c.loop-lane.works.items c.loop-lane.invariant.apart in
    omega (arith, turn.0, many, c.loop-lane.invariant.seats, c.loop-lane.processors.ok.0)

pub push_reserved-requires-in-loop-lane : goal.push_reserved-requires-in-loop-lane
push_reserved-requires-in-loop-lane c =
    let gives = c.into_iter-lane-iterator.ensures.into_iter_gives in
    let list = YieldsList-from_vec c.args.lanes.items gives.0 (gives.1 ∙ c.args.lanes.ok.0) in
    let turn = YieldsList-turn list c.loop-lane.yielded c.loop-lane.lane-iterator c.loop-lane.yielded_by c.next.result c.next.new.self c.in-Some.lane c.in-Some.is c.next.ensures.steps in
    let many = works-many c.loop-lane.yielded c.loop-lane.processors.items c.loop-lane.works.items c.loop-lane.invariant.apart in
    omega (arith, turn.0, many, c.loop-lane.invariant.works, c.loop-lane.works.ok.0)

pub loop-lane-preserved : goal.loop-lane-preserved
loop-lane-preserved c = record {
  apart =
      rw (c.push_reserved.ensures.items, c.push_reserved-in-loop-lane.ensures.items, c.into_work.ensures)
      (AreApart-push c.loop-lane.yielded c.loop-lane.processors.items c.loop-lane.works.items c.in-Some.lane c.lane.inside.processor c.lane.inside.work c.loop-lane.invariant.apart (sym c.lane.view_is) c.lane.invariant);
  seats = omega (arith, c.loop-lane.invariant.seats, c.push_reserved.ensures.capacity);
  works = omega (arith, c.loop-lane.invariant.works, c.push_reserved-in-loop-lane.ensures.capacity);
}
