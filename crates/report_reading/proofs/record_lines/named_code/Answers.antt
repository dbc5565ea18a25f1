use Rattle.std.proofs.Common.{sym, ◌∙◌}
use Rattle.report_reading.proofs.NameSteps.{found, goes, ends}
use Rattle.report_reading.proofs.record_lines.named_code.Goals as goal

pub returns-in-Some : goal.returns-in-Some
returns-in-Some c =
    sym (found c.args.names.now c.loop-code.code _ c.args.text.now c.in-Some.rest.now c.loop-code-test.true (sym c.in-Some.ensures)) ∙ c.loop-code.invariant

pub loop-code-preserved : goal.loop-code-preserved
loop-code-preserved c =
    sym (goes c.args.names.now c.loop-code.code _ c.args.text.now c.loop-code-test.true (sym c.in-None.ensures)) ∙ c.loop-code.invariant

pub returns : goal.returns
returns c = sym (ends c.args.names.now c.loop-code.code c.args.text.now c.loop-code-test.false) ∙ c.loop-code.invariant
