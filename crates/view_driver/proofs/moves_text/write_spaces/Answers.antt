use Rattle.rule_text.proofs.WriteSteps.{goes, breaks_off}
use Rattle.fw_base.proofs.Texts.{ends}
use Rattle.view_driver.proofs.TextSteps.{next_space, no_space}
use Rattle.view_driver.proofs.moves_text.write_spaces.Goals as goal

pub returns-in_err-write_text : goal.returns-in_err-write_text
returns-in_err-write_text g c =
    breaks_off _ _ _ c.loop-written.invariant (next_space c.args.count c.loop-written.written c.loop-written-test.true) c.in_err-write_text.was c.write_text.ensures c.from_residual.ensures.1

pub loop-written-preserved : goal.loop-written-preserved
loop-written-preserved g c =
    goes _ c.loop-written.invariant (next_space c.args.count c.loop-written.written c.loop-written-test.true) c.in_ok-write_text.was c.write_text.ensures

pub returns : goal.returns
returns g c = ends _ _ _ _ _ c.loop-written.invariant (no_space c.args.count c.loop-written.written c.loop-written-test.false)
