use Rattle.std.proofs.Common.{◌≡◌, ◌∙◌, ap, subst, ◌++◌, Bool}
use Rattle.std.specs.Prelude.{if◌then◌else◌}
use Rattle.std.proofs.Math.Seq.{take-length}
use Rattle.std.specs.Io.KnownBytes.{WriteAppends}
use Rattle.buffered_io.specs.PieceSink.{PieceText, HandsOn}
use Rattle.buffered_io.proofs.Pieces.{handed_then_buffered, handed_then_passed}
use Rattle.buffered_io.proofs.piece_sink.PieceSinkSink.write.Goals as goal

pub returns-then-buffer-2-clause-bytes : goal.returns-then-buffer-2-clause-bytes
returns-then-buffer-2-clause-bytes g c =
    let same = c.buffer.ensures ∙ ap (λ (b : Bool). if b then record c.args.self.now { pending = c.args.self.now.pending ++ c.args.bytes.now } else c.args.self.now) c.if-buffer.false in
    let so = subst (λ (old : PieceText g.row.K.Denot). HandsOn g.K.Sink.state old c.flush.new.self) same c.flush.ensures.handed_on in
    let is = c.buffer-2.ensures ∙ ap (λ (b : Bool). if b then record c.flush.new.self { pending = c.flush.new.self.pending ++ c.args.bytes.now } else c.flush.new.self) c.if-buffer-2.true in
    rw (take-length c.args.bytes.now) (handed_then_buffered g.K.Sink.state c.args.self.now c.flush.new.self c.buffer-2.new.self c.args.bytes.now so c.in_ok-flush.ensures.all is)

pub returns-clause-bytes : goal.returns-clause-bytes
returns-clause-bytes g c =
    let same = c.buffer.ensures ∙ ap (λ (b : Bool). if b then record c.args.self.now { pending = c.args.self.now.pending ++ c.args.bytes.now } else c.args.self.now) c.if-buffer.false in
    let so = subst (λ (old : PieceText g.row.K.Denot). HandsOn g.K.Sink.state old c.flush.new.self) same c.flush.ensures.handed_on in
    let is = c.buffer-2.ensures ∙ ap (λ (b : Bool). if b then record c.flush.new.self { pending = c.flush.new.self.pending ++ c.args.bytes.now } else c.flush.new.self) c.if-buffer-2.false in
    let more = subst (λ (old : PieceText g.row.K.Denot). WriteAppends (g.K.Sink.state old.sink).written (g.K.Sink.state c.pass.new.self.sink).written c.pass.result c.args.bytes.now) is c.pass.ensures.bytes in
    let kept = subst (λ (old : PieceText g.row.K.Denot). c.pass.new.self ≡ record old { sink = c.pass.new.self.sink }) is c.pass.ensures.kept in
    handed_then_passed g.K.Sink.state c.args.self.now c.flush.new.self c.pass.new.self c.pass.result c.args.bytes.now so c.in_ok-flush.ensures.all kept more
