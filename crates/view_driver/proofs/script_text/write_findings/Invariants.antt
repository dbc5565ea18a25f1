-- The findings so far were written.
use Rattle.std.proofs.Common.{drop, flat_map}
use Rattle.fw_base.proofs.Texts.{IsUnderWay}
use Rattle.view_driver.specs.ReviewText.{finding_text}
use Rattle.view_driver.proofs.script_text.write_findings.Given as goal

abbrev pub invariant-loop-finding : goal.invariant-loop-finding
invariant-loop-finding g l =
    IsUnderWay (g.K.Sink.state l.initial.out) (g.K.Sink.state l.out) (flat_map finding_text l.findings) (flat_map finding_text (drop l.finding-index l.findings))
