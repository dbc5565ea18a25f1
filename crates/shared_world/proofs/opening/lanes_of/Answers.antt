use Rattle.std.proofs.Common.{List, [], ◌∷◌, ◌++◌, subst, sym}
use Rattle.shared_world.proofs.Apart.{AreNewOf-push}
use Rattle.shared_world.proofs.opening.lanes_of.Goals as goal
use Rattle.shared_world.specs.Apart.{AreNewOf}
use Rattle.shared_world.specs.SharedLane.{SharedLane}

pub loop-processor-preserved : goal.loop-processor-preserved
loop-processor-preserved c =
    subst (λ (all : List SharedLane). AreNewOf c.args.cache (c.loop-processor.yielded ++ c.in-Some.processor ∷ []) all) (sym c.in_ok-push.ensures.items)
    (AreNewOf-push c.args.cache c.loop-processor.yielded c.loop-processor.lanes.items c.in-Some.processor c.in_ok-lane.lane c.loop-processor.invariant c.in_ok-lane.ensures.lane c.in_ok-lane.ensures.stands)
