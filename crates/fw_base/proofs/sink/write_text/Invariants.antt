-- What is gone from `rest` was appended, and the count never fell.
use Rattle.std.proofs.Common.{length}
use Rattle.fw_base.proofs.Texts.{IsUnderWay}
use Rattle.fw_base.proofs.sink.write_text.Given as goal

abbrev pub invariant-loop-rest : goal.invariant-loop-rest
invariant-loop-rest g l = IsUnderWay (g.K.Sink.state l.initial.out) (g.K.Sink.state l.out) l.initial.rest l.rest

abbrev pub decreases-loop-rest : goal.decreases-loop-rest
decreases-loop-rest g l = length l.rest
