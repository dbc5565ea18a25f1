use Rattle.std.proofs.Common.{List, [], ◌∷◌, ◌++◌, ◌∙◌, ap}
use Rattle.shared_world.specs.SharedLane.{SharedLane}
use Rattle.world_tests.proofs.Callers.{two_each}
use Rattle.world_tests.proofs.pair.close_pair.Goals as goal

pub close-requires-clause-lanes : goal.close-requires-clause-lanes
close-requires-clause-lanes c =
    two_each c.args.world c.args.port.now c.args.callers.first c.args.callers.second _
    (c.in_ok-push-2.ensures.items ∙ ap (λ (lanes : List SharedLane). lanes ++ c.args.callers.first ∷ []) (c.in_ok-push.ensures.items ∙ ap (λ (lanes : List SharedLane). lanes ++ c.args.callers.second ∷ []) c.requires.empty))
    c.requires.first c.requires.second
