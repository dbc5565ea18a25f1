-- The lines of the slots so far were written.
use Rattle.std.proofs.Common.{drop, flat_map}
use Rattle.fw_base.proofs.Texts.{IsUnderWay}
use Rattle.state_texts.specs.StateTexts.{slot_text}
use Rattle.state_texts.proofs.state_texts.write_lines.Given as goal

abbrev pub invariant-loop-slot : goal.invariant-loop-slot
invariant-loop-slot g l =
    IsUnderWay (g.K.Sink.state l.initial.out) (g.K.Sink.state l.out)
    (flat_map (slot_text l.names) l.slots) (flat_map (slot_text l.names) (drop l.slot-index l.slots))
