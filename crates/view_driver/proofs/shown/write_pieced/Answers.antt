use Rattle.std.proofs.Common.{subst, Ok, Err}
use Rattle.fw_base.specs.Texts.{WritesText}
use Rattle.fw_base.specs.declared.failure.Failed.{Failed}
use Rattle.buffered_io.specs.PieceSink.{PieceText, state_of}
use Rattle.buffered_io.proofs.Pieces.{flushed, broken}
use Rattle.view_driver.proofs.shown.write_pieced.Goals.{in-Ok, in-Err}
use Rattle.view_driver.proofs.shown.write_pieced.Goals as goal

pub returns : goal.returns
returns g c = elim c.match-write_shown.branch [
  | in-Ok w ↦
      let shown = w.in-Ok.ensures in
      let wrote = subst (λ (p : PieceText g.row.K.Denot). WritesText {T = Unit {0}} {E = Failed} (state_of g.K.Sink.state p) (state_of g.K.Sink.state c.write_shown.new.out) shown.text (Ok tt))
      c.new-pieces.ensures shown.writes in
      rw (c.into_inner.ensures, w.pieces-is, w.written-is) (record {
        text = shown.text;
        is_text = shown.is_text;
        writes = flushed g.K.Sink.state c.args.sink c.write_shown.new.out w.flush-written.new.self shown.text tt w.flush-written.result
            wrote w.flush-written.ensures.handed_on w.flush-written.ensures.all w.flush-written.ensures.cause;
      })
  | in-Err w ↦
      let shown = w.in-Err.ensures in
      let wrote = subst (λ (p : PieceText g.row.K.Denot). WritesText {T = Unit {0}} {E = Failed} (state_of g.K.Sink.state p) (state_of g.K.Sink.state c.write_shown.new.out) shown.text (Err w.in-Err.field-0))
      c.new-pieces.ensures shown.writes in
      rw (c.into_inner.ensures, w.pieces-is, w.written-is) (record {
        text = shown.text;
        is_text = shown.is_text;
        writes = broken g.K.Sink.state c.args.sink c.write_shown.new.out shown.text _ w.in-Err.field-0 wrote;
      })
]
