use Rattle.std.proofs.Common.{◌+◌, drop, flat_map}
use Rattle.rule_text.proofs.WriteSteps.{goes, breaks_off}
use Rattle.view_driver.specs.ReviewText.{finding_text}
use Rattle.view_driver.proofs.ReviewLaws.{more_texts}
use Rattle.view_driver.proofs.script_text.write_findings.Goals as goal

pub returns-in_err-write_finding : goal.returns-in_err-write_finding
returns-in_err-write_finding g c =
    let next = more_texts finding_text c.args.findings.now c.loop-finding.finding-index c.finding-item.result c.loop-finding-test.true c.finding-item.is in
    breaks_off _ _ (flat_map finding_text (drop (c.loop-finding.finding-index + 1) c.args.findings.now)) c.loop-finding.invariant next c.in_err-write_finding.was c.write_finding.ensures c.from_residual.ensures.1

pub loop-finding-preserved : goal.loop-finding-preserved
loop-finding-preserved g c =
    let next = more_texts finding_text c.args.findings.now c.loop-finding.finding-index c.finding-item.result c.loop-finding-test.true c.finding-item.is in
    goes (flat_map finding_text (drop (c.loop-finding.finding-index + 1) c.args.findings.now)) c.loop-finding.invariant next c.in_ok-write_finding.was c.write_finding.ensures
