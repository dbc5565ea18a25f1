-- What stands under the bytes so far was written.
use Rattle.std.proofs.Common.{drop, map}
use Rattle.fw_base.proofs.Texts.{IsUnderWay}
use Rattle.view_driver.specs.ReviewText.{under_byte}
use Rattle.view_driver.proofs.script_text.write_under.Given as goal

abbrev pub invariant-loop-byte : goal.invariant-loop-byte
invariant-loop-byte g l = IsUnderWay (g.K.Sink.state l.initial.out) (g.K.Sink.state l.out) (map under_byte l.front) (map under_byte (drop l.byte-index l.front))
