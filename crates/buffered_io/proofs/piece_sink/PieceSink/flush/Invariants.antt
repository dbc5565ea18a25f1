-- A front of what was buffered was handed on so far.
use Rattle.std.proofs.Common.{◌-◌, ◌≤◌, drop, vec_len}
use Rattle.buffered_io.specs.PieceSink.{HandsOn}
use Rattle.buffered_io.proofs.piece_sink.PieceSink.flush.Given as goal

abbrev pub invariant-loop-self : goal.invariant-loop-self
invariant-loop-self g l = record {
  within : l.self-inside.start ≤ vec_len l.self-inside.buffer;
  handed_on : HandsOn g.K.Sink.state l.fn.self
      (record { sink = l.self-inside.sink; pending = drop l.self-inside.start l.self-inside.buffer.items; begun = l.self-inside.begun.value });
  later : (g.K.Sink.state l.fn.self.sink).faults ≤ (g.K.Sink.state l.self-inside.sink).faults;
}

abbrev pub decreases-loop-self : goal.decreases-loop-self
decreases-loop-self g l = vec_len l.self-inside.buffer - l.self-inside.start
