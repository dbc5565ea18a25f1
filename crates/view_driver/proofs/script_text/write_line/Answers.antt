use Rattle.std.proofs.Common.{◌+◌, drop, map}
use Rattle.std.proofs.lemmas.List.{at_drop_more}
use Rattle.rule_text.proofs.WriteSteps.{goes, breaks_off}
use Rattle.view_driver.specs.ReviewText.{printed_byte, line_text}
use Rattle.view_driver.proofs.script_text.write_line.Goals as goal

pub returns-in_err-write_byte : goal.returns-in_err-write_byte
unfolding line_text
returns-in_err-write_byte g c =
    let next = at_drop_more (map printed_byte) c.args.line.now c.loop-byte.byte-index 0 c.loop-byte-test.true in
    breaks_off _ _ (map printed_byte (drop (c.loop-byte.byte-index + 1) c.args.line.now)) c.loop-byte.invariant next c.in_err-write_byte.was c.write_byte.ensures c.from_residual.ensures.1

pub loop-byte-preserved : goal.loop-byte-preserved
unfolding line_text
loop-byte-preserved g c =
    let next = at_drop_more (map printed_byte) c.args.line.now c.loop-byte.byte-index 0 c.loop-byte-test.true in
    goes (map printed_byte (drop (c.loop-byte.byte-index + 1) c.args.line.now)) c.loop-byte.invariant next c.in_ok-write_byte.was c.write_byte.ensures
