use Rattle.std.proofs.Common.{subst, sym, ap, ◌∙◌}
use Rattle.shared_world.proofs.Sections.{left}
use Rattle.shared_world.proofs.world.World.leave.Goals as goal
use Rattle.shared_world.specs.LaneCalls.{LeavesLane}
use Rattle.shared_world.specs.SharedLane.{SharedInside, lane_of}

pub returns : goal.returns
returns c = record {
  left = subst (λ (i : SharedInside). LeavesLane i (lane_of c.leave-processor.result.table_id c.leave-processor.result.view c.loosen.new.self)) c.inside.view_is
      (left c.inside.inside.reading.table_id c.leave-processor.result.table_id c.inside.inside.reading.view c.leave-processor.result.view c.inside.inside.work c.loosen.new.self c.inside.inside.judged
      (c.leave-processor.ensures.lock ∙ c.self.view_is ∙ sym c.requires.lane ∙ sym (ap (λ (i : SharedInside). i.lane.world) c.inside.view_is))
      c.leave-processor.ensures.left (rw c.deref_mut.ensures.value at c.loosen.ensures));
}
