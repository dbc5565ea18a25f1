-- So many of the spaces were written.
use Rattle.std.proofs.Common.{◌-◌, replicate}
use Rattle.fw_base.proofs.Texts.{IsUnderWay}
use Rattle.view_driver.proofs.moves_text.write_spaces.Given as goal

abbrev pub invariant-loop-written : goal.invariant-loop-written
invariant-loop-written g l = IsUnderWay (g.K.Sink.state l.initial.out) (g.K.Sink.state l.out) (replicate l.count 32) (replicate (l.count - l.written) 32)
