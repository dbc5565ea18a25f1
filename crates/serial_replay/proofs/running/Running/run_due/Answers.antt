use Rattle.std.proofs.Common.{refl}
use Rattle.serial_replay.proofs.Keeping.{keeps-both, keeps-due, keeps-settled, line-formed}
use Rattle.serial_schedule.proofs.Events.{none-settled}
use Rattle.serial_replay.proofs.running.Running.run_due.Goals as goal

pub run_line-requires-clause-formed : goal.run_line-requires-clause-formed
run_line-requires-clause-formed g c = line-formed _ _ c.in-Some.line.now c.in-Some.ensures.last c.loop-line.invariant.keeps.ready.formed

pub loop-line-preserved : goal.loop-line-preserved
loop-line-preserved g c = record {
  keeps = keeps-both g.S.Source.left g.S.Source.faults _ c.loop-line.self _ c.loop-line.invariant.keeps
      (keeps-due g.S.Source.left g.S.Source.faults c.loop-line.self _ c.in-Some.line.now c.loop-line.invariant.keeps.ready c.in_ok-run_line.ensures c.in-Some.ensures refl refl);
  tracks = c.loop-line.invariant.tracks;
}

pub returns : goal.returns
returns g c = record {
  keeps = keeps-both g.S.Source.left g.S.Source.faults _ c.loop-line.self _ c.loop-line.invariant.keeps
      (keeps-settled g.S.Source.left g.S.Source.faults c.loop-line.self _ c.loop-line.invariant.keeps.ready c.in_default.ensures refl refl refl);
  none = none-settled _ _ _ c.in_default.ensures;
  tracks = c.loop-line.invariant.tracks;
}
