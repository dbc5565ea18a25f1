-- The lines so far were written.
use Rattle.std.proofs.Common.{drop, flat_map}
use Rattle.fw_base.proofs.Texts.{IsUnderWay}
use Rattle.view_driver.specs.MovesText.{stayed_line}
use Rattle.view_driver.proofs.moves_text.write_stayed_lines.Given as goal

abbrev pub invariant-loop-told : goal.invariant-loop-told
invariant-loop-told g l =
    IsUnderWay (g.K.Sink.state l.initial.out) (g.K.Sink.state l.out) (flat_map (stayed_line l.texts) l.stayed) (flat_map (stayed_line l.texts) (drop l.told-index l.stayed))
