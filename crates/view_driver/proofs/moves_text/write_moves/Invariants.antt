-- The moves so far were written, each with its flows.
use Rattle.std.proofs.Common.{◌≡◌, drop}
use Rattle.fw_base.proofs.Texts.{IsUnderWay}
use Rattle.view_driver.specs.MovesText.{moved_texts}
use Rattle.view_driver.proofs.moves_text.write_moves.Given as goal

abbrev pub invariant-loop-told : goal.invariant-loop-told
invariant-loop-told g l = record {
  number : l.place ≡ l.told-index;
  written : IsUnderWay (g.K.Sink.state l.initial.out) (g.K.Sink.state l.out)
      (moved_texts l.texts l.width l.moves l.flows) (moved_texts l.texts l.width (drop l.told-index l.moves) (drop l.told-index l.flows));
}
