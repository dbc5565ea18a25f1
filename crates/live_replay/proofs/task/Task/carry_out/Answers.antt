use Rattle.std.proofs.Common.{refl}
use Rattle.live_replay.proofs.Working.{begins_work, finishes_task}
use Rattle.live_replay.proofs.task.Task.carry_out.Goals as goal

pub take_all-requires : goal.take_all-requires
take_all-requires g c = begins_work g.S.Source.left g.S.Source.faults c.args.world.now c.args.self c.in_ok-track.track c.requires c.in_ok-track.ensures

pub returns : goal.returns
returns g c =
    finishes_task g.S.Source.left g.S.Source.faults c.args.world.now c.args.self c.in_ok-track.track c.in_ok-track-2.field-0.track c.in_ok-track-2.field-0.lane _ c.requires c.in_ok-track.ensures c.in_ok-track-2.ensures refl c.close-source.ensures.source c.close-source.ensures.end
