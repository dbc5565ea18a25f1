use Rattle.std.proofs.Common.{refl, ap, ◌∙◌}
use Rattle.serial_replay.specs.Running.{first_capture_of}
use Rattle.fw_command.specs.Steps.{all_lines}
use Rattle.serial_replay.proofs.Keeping.{keeps-both, keeps-left, keeps-ended, line-formed}
use Rattle.serial_replay.proofs.running.Running.run_left.Goals as goal

pub run_line-requires-clause-formed : goal.run_line-requires-clause-formed
run_line-requires-clause-formed g c = line-formed _ _ c.in-Some.line.now c.in-Some.ensures.last c.loop-line.invariant.keeps.ready.formed

pub loop-line-preserved : goal.loop-line-preserved
loop-line-preserved g c = record {
  keeps = keeps-both g.S.Source.left g.S.Source.faults _ c.loop-line.self _ c.loop-line.invariant.keeps
      (keeps-left g.S.Source.left g.S.Source.faults c.loop-line.self _ c.in-Some.line.now c.loop-line.invariant.keeps.ready (ap first_capture_of c.loop-line.invariant.tracks ∙ c.requires.ended) c.in_ok-run_line.ensures c.in-Some.ensures refl refl);
  tracks = c.loop-line.invariant.tracks;
}

pub returns : goal.returns
returns g c = record {
  keeps = keeps-both g.S.Source.left g.S.Source.faults _ c.loop-line.self _ c.loop-line.invariant.keeps
      (keeps-ended g.S.Source.left g.S.Source.faults c.loop-line.self _ c.loop-line.invariant.keeps.ready (ap first_capture_of c.loop-line.invariant.tracks ∙ c.requires.ended) c.in_default.ensures refl refl refl);
  lines = ap all_lines c.in_default.ensures.steps;
  ended = ap first_capture_of c.loop-line.invariant.tracks ∙ c.requires.ended;
}
