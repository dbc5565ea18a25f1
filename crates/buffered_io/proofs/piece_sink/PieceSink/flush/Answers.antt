use Rattle.std.proofs.Common.{arith}
use Rattle.fw_base.proofs.Parts.{rest-cut, cut-within}
use Rattle.buffered_io.proofs.Pieces.{hands_on_more}
use Rattle.buffered_io.proofs.piece_sink.PieceSink.flush.Goals as goal

pub loop-self-preserved : goal.loop-self-preserved
loop-self-preserved g c = record {
  within = cut-within c.deref.result.now c.loop-self.self-inside.start c.in_ok-count.count _ c.loop-self.invariant.within c.deref.ensures.len c.in_ok-count.ensures.bound;
  handed_on = hands_on_more g.K.Sink.state _ _ _ _ _ c.loop-self.invariant.handed_on c.in_ok-count.ensures.bytes c.write.ensures.made (rest-cut _ _ _ _ c.deref.ensures.value);
  later = omega (arith, c.loop-self.invariant.later, c.write.ensures.cause.later);
}
