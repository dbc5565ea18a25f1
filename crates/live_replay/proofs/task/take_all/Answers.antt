use Rattle.std.proofs.Common.{sym}
use Rattle.live_replay.proofs.Working.{takes_none, takes_one, work_after, work_port, room_falls, holds_none}
use Rattle.live_replay.proofs.task.take_all.Goals as goal

pub loop-taken-init : goal.loop-taken-init
loop-taken-init g c = record { takes = takes_none g.S.Source.left g.S.Source.faults c.args.world.now c.args.post; work = c.requires }

pub meet-requires-clause-posted : goal.meet-requires-clause-posted
meet-requires-clause-posted g c = c.loop-taken.invariant.work.at_work.posted

pub meet-requires-clause-port : goal.meet-requires-clause-port
meet-requires-clause-port g c = work_port g.S.Source.left g.S.Source.faults c.args.world.now c.loop-taken.track c.loop-taken.lane c.in-Some.taken.port.now c.loop-taken.invariant.work c.in-Some.ensures.port

pub loop-taken-smaller : goal.loop-taken-smaller
loop-taken-smaller g c =
    room_falls g.S.Source.left g.S.Source.faults c.args.world.now c.loop-taken.track c.advance.new.self c.loop-taken.lane c.in_ok-lane.lane _ (sym c.in-Some.ensures.input) c.advance.ensures c.in_ok-lane.ensures c.loop-taken.invariant.work

pub loop-taken-preserved : goal.loop-taken-preserved
loop-taken-preserved g c = record {
  takes = takes_one g.S.Source.left g.S.Source.faults c.args.world.now c.args.post c.loop-taken.track c.advance.new.self c.loop-taken.lane c.in_ok-lane.lane _ (sym c.in-Some.ensures.input) c.advance.ensures c.in_ok-lane.ensures c.loop-taken.invariant.takes;
  work = work_after g.S.Source.left g.S.Source.faults c.args.world.now c.loop-taken.track c.advance.new.self c.loop-taken.lane c.in_ok-lane.lane _ (sym c.in-Some.ensures.input) c.advance.ensures c.in_ok-lane.ensures c.loop-taken.invariant.work;
}

pub returns : goal.returns
returns g c = record { takes = c.loop-taken.invariant.takes; none = holds_none g.S.Source.left g.S.Source.faults c.loop-taken.track (sym c.in_default.ensures.input) }
