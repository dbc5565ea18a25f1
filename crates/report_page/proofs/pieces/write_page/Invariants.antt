-- The pieces so far were written, and the count never fell.
use Rattle.std.proofs.Common.{flat_map, drop}
use Rattle.fw_base.proofs.Texts.{IsUnderWay}
use Rattle.report_page.specs.Pieces.{piece_text}
use Rattle.report_page.proofs.pieces.write_page.Given as goal

abbrev pub invariant-loop-piece : goal.invariant-loop-piece
invariant-loop-piece g l = IsUnderWay (g.K.Sink.state l.initial.out) (g.K.Sink.state l.out)
    (flat_map piece_text l.pieces) (flat_map piece_text (drop l.piece-index l.pieces))
