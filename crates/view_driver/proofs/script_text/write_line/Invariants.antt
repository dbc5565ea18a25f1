-- The bytes so far were written.
use Rattle.std.proofs.Common.{drop, map}
use Rattle.fw_base.proofs.Texts.{IsUnderWay}
use Rattle.view_driver.specs.ReviewText.{printed_byte, line_text}
use Rattle.view_driver.proofs.script_text.write_line.Given as goal

abbrev pub invariant-loop-byte : goal.invariant-loop-byte
invariant-loop-byte g l = IsUnderWay (g.K.Sink.state l.initial.out) (g.K.Sink.state l.out) (line_text l.line) (map printed_byte (drop l.byte-index l.line))
