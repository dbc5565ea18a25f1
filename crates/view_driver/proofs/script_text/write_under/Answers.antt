use Rattle.std.proofs.Common.{◌+◌, drop, map}
use Rattle.std.proofs.lemmas.List.{at_drop_more}
use Rattle.rule_text.proofs.WriteSteps.{goes, breaks_off}
use Rattle.view_driver.specs.ReviewText.{under_byte}
use Rattle.view_driver.proofs.script_text.write_under.Goals as goal

pub returns-in_err-write_under_byte : goal.returns-in_err-write_under_byte
returns-in_err-write_under_byte g c =
    let next = at_drop_more (map under_byte) c.args.front.now c.loop-byte.byte-index 0 c.loop-byte-test.true in
    breaks_off _ _ (map under_byte (drop (c.loop-byte.byte-index + 1) c.args.front.now)) c.loop-byte.invariant next c.in_err-write_under_byte.was c.write_under_byte.ensures c.from_residual.ensures.1

pub loop-byte-preserved : goal.loop-byte-preserved
loop-byte-preserved g c =
    let next = at_drop_more (map under_byte) c.args.front.now c.loop-byte.byte-index 0 c.loop-byte-test.true in
    goes (map under_byte (drop (c.loop-byte.byte-index + 1) c.args.front.now)) c.loop-byte.invariant next c.in_ok-write_under_byte.was c.write_under_byte.ensures
