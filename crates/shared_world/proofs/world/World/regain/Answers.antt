use Rattle.std.proofs.Common.{subst, sym, ap, ◌∙◌}
use Rattle.shared_world.proofs.Sections.{regained}
use Rattle.shared_world.proofs.world.World.regain.Goals as goal
use Rattle.shared_world.specs.LaneCalls.{RegainsLane}
use Rattle.shared_world.specs.SharedLane.{SharedLane, lane_of}

pub returns : goal.returns
returns g c = record {
  regained = subst (λ (l : SharedLane). RegainsLane l (lane_of c.regain-processor.result.table_id c.regain-processor.result.view c.lane.inside.work)) c.lane.view_is
      (regained c.lane.inside.processor.table_id c.regain-processor.result.table_id c.lane.inside.processor.view c.regain-processor.result.view c.lane.inside.work
      (c.regain-processor.ensures.lock ∙ c.self.view_is ∙ sym c.requires.lane ∙ sym (ap (λ (l : SharedLane). l.world) c.lane.view_is))
      c.regain-processor.ensures.regained);
}
