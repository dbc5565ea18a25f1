use Rattle.std.proofs.Common.{rules, ℕ, List, Bor}
use Rattle.report_values.proofs.LineSteps.{line_lacks, line_more, lines_end}
use Rattle.report_values.proofs.reads.rule_lines.Goals as goal

pub returns-in_err-rule_line : goal.returns-in_err-rule_line
returns-in_err-rule_line c =
    let lacks =
    line_lacks {B = ℕ × Bor (List ℕ)} _ _ (λ r. (r.0, r.1.now)) c.loop.counter c.args.count (Unit {0}) c.loop.lines.rest.now c.rule_line.new.lines.rest.now c.rule_line.new.lines.rest.now _
    c.in_err-rule_line.field-0.0 c.loop-test.true c.loop.invariant c.in_err-rule_line.ensures in
    search (rules, lacks)

pub loop-preserved : goal.loop-preserved
loop-preserved c =
    line_more {B = ℕ × Bor (List ℕ)} _ _ (λ r. (r.0, r.1.now)) c.loop.counter c.args.count c.loop.lines.rest.now c.rule_line.new.lines.rest.now _ c.in_ok-rule_line.field-0 c.loop-test.true
    c.loop.invariant c.in_ok-rule_line.ensures

pub returns : goal.returns
returns c = lines_end {B = ℕ × Bor (List ℕ)} _ _ (λ r. (r.0, r.1.now)) c.loop.counter c.args.count c.loop.lines.rest.now _ c.loop-test.false c.loop.invariant
