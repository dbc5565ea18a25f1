use Rattle.std.proofs.Common.{arith, ◌+◌, ◌-◌}
use Rattle.fw_base.proofs.Texts.{ends}
use Rattle.rule_text.proofs.WriteSteps.{goes, breaks_off}
use Rattle.report_texts.specs.RulesText.{sets_text}
use Rattle.report_texts.proofs.Sections.{next_set, no_set}
use Rattle.fw_report.proofs.rule_lines.write_sets.Goals as goal

pub returns-in_err-write_set : goal.returns-in_err-write_set
returns-in_err-write_set g c =
    breaks_off _ _ (sets_text c.args.mask (32 - (c.loop-set.set + 1)) (c.loop-set.set + 1)) c.loop-set.invariant (next_set c.args.mask c.loop-set.set c.loop-set-test.true) c.in_err-write_set.was c.write_set.ensures c.from_residual.ensures.1

pub loop-set-preserved : goal.loop-set-preserved
loop-set-preserved g c =
    goes (sets_text c.args.mask (32 - (c.loop-set.set + 1)) (c.loop-set.set + 1)) c.loop-set.invariant (next_set c.args.mask c.loop-set.set c.loop-set-test.true) c.in_ok-write_set.was c.write_set.ensures

pub returns : goal.returns
returns g c = ends _ _ _ _ _ c.loop-set.invariant (no_set c.args.mask c.loop-set.set (omega arith))
