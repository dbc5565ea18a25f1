use Rattle.std.proofs.Common.{rules}
use Rattle.report_values.proofs.LineSteps.{line_lacks, line_more, lines_end}
use Rattle.report_values.specs.declared.rules.CountedRule.{CountedRule}
use Rattle.report_values.proofs.reads.counted_lines.Goals as goal

pub returns-in_err-counted_line : goal.returns-in_err-counted_line
returns-in_err-counted_line c =
    let lacks =
    line_lacks {B = CountedRule} _ _ (λ r. (r.number, r.packets, r.bytes, r.text.now)) c.loop.counter c.args.count (Unit {0}) c.loop.lines.rest.now c.counted_line.new.lines.rest.now c.counted_line.new.lines.rest.now _
    c.in_err-counted_line.field-0.0 c.loop-test.true c.loop.invariant c.in_err-counted_line.ensures in
    search (rules, lacks)

pub loop-preserved : goal.loop-preserved
loop-preserved c =
    line_more {B = CountedRule} _ _ (λ r. (r.number, r.packets, r.bytes, r.text.now)) c.loop.counter c.args.count c.loop.lines.rest.now c.counted_line.new.lines.rest.now _ c.in_ok-counted_line.field-0 c.loop-test.true
    c.loop.invariant c.in_ok-counted_line.ensures

pub returns : goal.returns
returns c = lines_end {B = CountedRule} _ _ (λ r. (r.number, r.packets, r.bytes, r.text.now)) c.loop.counter c.args.count c.loop.lines.rest.now _ c.loop-test.false c.loop.invariant
