use Rattle.std.proofs.Common.{rules}
use Rattle.report_values.proofs.LineSteps.{line_lacks, line_more, lines_end}
use Rattle.report_values.proofs.reads.hits_lines.Goals as goal

pub returns-in_err-hits_line : goal.returns-in_err-hits_line
returns-in_err-hits_line c =
    let lacks =
    line_lacks _ _ (λ t. t) c.loop-place.place c.args.captures (Unit {0}) c.loop-place.lines.rest.now c.hits_line.new.lines.rest.now c.hits_line.new.lines.rest.now _
    c.in_err-hits_line.field-0.0 c.loop-place-test.true c.loop-place.invariant c.in_err-hits_line.ensures in
    search (rules, lacks)

pub loop-place-preserved : goal.loop-place-preserved
loop-place-preserved c =
    line_more _ _ (λ t. t) c.loop-place.place c.args.captures c.loop-place.lines.rest.now c.hits_line.new.lines.rest.now _ c.in_ok-hits_line.field-0 c.loop-place-test.true
    c.loop-place.invariant c.in_ok-hits_line.ensures

pub returns : goal.returns
returns c = lines_end _ _ (λ t. t) c.loop-place.place c.args.captures c.loop-place.lines.rest.now _ c.loop-place-test.false c.loop-place.invariant
