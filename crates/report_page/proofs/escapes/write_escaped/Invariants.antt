-- The bytes so far were written, and the count never fell.
use Rattle.std.proofs.Common.{flat_map, drop}
use Rattle.fw_base.proofs.Texts.{IsUnderWay}
use Rattle.report_page.specs.Escapes.{escaped_byte}
use Rattle.report_page.proofs.escapes.write_escaped.Given as goal

abbrev pub invariant-loop-byte : goal.invariant-loop-byte
invariant-loop-byte g l = IsUnderWay (g.K.Sink.state l.initial.out) (g.K.Sink.state l.out)
    (flat_map escaped_byte l.text) (flat_map escaped_byte (drop l.byte-index l.text))
