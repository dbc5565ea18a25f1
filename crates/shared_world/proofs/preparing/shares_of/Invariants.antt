use Rattle.std.specs.Arc.{arc_value}
use Rattle.shared_world.specs.DeskKept.{AreShares}
use Rattle.shared_world.proofs.preparing.shares_of.Given as goal

abbrev pub invariant-loop-index : goal.invariant-loop-index
invariant-loop-index l = AreShares (arc_value l.fn.edition) l._index l.shares.items
