use Rattle.std.proofs.Common.{drop, map}
use Rattle.std.specs.List.{join_with_byte}
use Rattle.fw_base.proofs.Texts.{IsUnderWay}
use Rattle.rule_text.proofs.Lists.{behind_bytes}
use Rattle.rule_text.proofs.writing.write_joined.Given as goal

abbrev pub invariant-loop-item : goal.invariant-loop-item
invariant-loop-item g l =
    IsUnderWay (g.K.Sink.state l.fn.out) (g.K.Sink.state l.out) (join_with_byte l.between (map g.T.Element.text l.fn.items))
    (behind_bytes l.between (map g.T.Element.text (drop l.item-index l.others)))
