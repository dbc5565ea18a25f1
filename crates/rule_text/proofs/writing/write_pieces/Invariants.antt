use Rattle.std.proofs.Common.{drop}
use Rattle.rule_text.specs.Pieces.{pieces_text}
use Rattle.fw_base.proofs.Texts.{IsUnderWay}
use Rattle.rule_text.proofs.writing.write_pieces.Given as goal

abbrev pub invariant-loop-piece : goal.invariant-loop-piece
invariant-loop-piece g l = IsUnderWay (g.K.Sink.state l.initial.out) (g.K.Sink.state l.out) (pieces_text l.pieces) (pieces_text (drop l.piece-index l.pieces))
