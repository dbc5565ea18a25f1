use Rattle.std.proofs.Common.{subst, Ok, Err}
use Rattle.fw_base.specs.Texts.{WritesText}
use Rattle.fw_base.specs.declared.failure.Failed.{Failed}
use Rattle.buffered_io.specs.PieceSink.{PieceText, state_of}
use Rattle.replay_driver.specs.RunResult.{result_text}
use Rattle.buffered_io.proofs.Pieces.{flushed, broken}
use Rattle.replay_driver.proofs.pieced_text.write_pieced.Goals.{in-Ok, in-Err}
use Rattle.replay_driver.proofs.pieced_text.write_pieced.Goals as goal

pub returns : goal.returns
returns g c = elim c.match-write.branch [
  | in-Ok w ↦
      let wrote = subst (λ (p : PieceText g.row.K.Denot). WritesText {T = Unit {0}} {E = Failed} (state_of g.K.Sink.state p) (state_of g.K.Sink.state c.write.new.out) (result_text c.args.text.1.now) (Ok tt))
      c.new-pieces.ensures w.in-Ok.ensures in
      rw (c.into_inner.ensures, w.pieces-is, w.written-is) (flushed g.K.Sink.state c.args.sink c.write.new.out w.flush-written.new.self (result_text c.args.text.1.now) tt w.flush-written.result
      wrote w.flush-written.ensures.handed_on w.flush-written.ensures.all w.flush-written.ensures.cause)
  | in-Err w ↦
      let wrote = subst (λ (p : PieceText g.row.K.Denot). WritesText {T = Unit {0}} {E = Failed} (state_of g.K.Sink.state p) (state_of g.K.Sink.state c.write.new.out) (result_text c.args.text.1.now) (Err w.in-Err.field-0))
      c.new-pieces.ensures w.in-Err.ensures in
      rw (c.into_inner.ensures, w.pieces-is, w.written-is) (broken g.K.Sink.state c.args.sink c.write.new.out (result_text c.args.text.1.now) _ w.in-Err.field-0 wrote)
]
