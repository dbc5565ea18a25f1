use Rattle.std.proofs.Common.{rules, ◌+◌, ℕ, List, Bor}
use Rattle.report_values.proofs.LineSteps.{line_lacks, line_more, lines_end}
use Rattle.report_values.proofs.reads.read_lines.Goals as goal

pub returns-in_err-any_line : goal.returns-in_err-any_line
returns-in_err-any_line c =
    let lacks =
    line_lacks {B = Bor (List ℕ)} _ _ (λ t. t.now) c.loop.counter c.args.count (Unit {0}) c.loop.lines.rest.now c.any_line.new.lines.rest.now c.any_line.new.lines.rest.now _
    c.in_err-any_line.field-0.0 c.loop-test.true c.loop.invariant (c.in_err-any_line.ensures (c.loop.counter + 1)) in
    search (rules, lacks)

pub loop-preserved : goal.loop-preserved
loop-preserved c =
    line_more {B = Bor (List ℕ)} _ _ (λ t. t.now) c.loop.counter c.args.count c.loop.lines.rest.now c.any_line.new.lines.rest.now _ c.in_ok-any_line.field-0 c.loop-test.true
    c.loop.invariant (c.in_ok-any_line.ensures (c.loop.counter + 1))

pub returns : goal.returns
returns c = lines_end {B = Bor (List ℕ)} _ _ (λ t. t.now) c.loop.counter c.args.count c.loop.lines.rest.now _ c.loop-test.false c.loop.invariant
