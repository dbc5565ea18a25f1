use Rattle.shared_world.specs.Apart.{AreNewOf}
use Rattle.shared_world.proofs.opening.lanes_of.Given as goal

abbrev pub invariant-loop-processor : goal.invariant-loop-processor
invariant-loop-processor l = AreNewOf l.cache l.yielded l.lanes.items
