use Rattle.std.proofs.Common.{add-one}
use Rattle.dyn_states.specs.StateObject as object
use Rattle.dyn_states.proofs.Mapped.{mapped_more}
use Rattle.dyn_states.proofs.state_rules.hand_over.Goals as goal

pub loop-place-preserved : goal.loop-place-preserved
loop-place-preserved c =
    rw (c.handed_over.ensures, c.loop-place.invariant, add-one) (mapped_more (object.handed_over c.args.rules.now) c.args.states.now c.loop-place.place _ c.loop-place-test.true)
