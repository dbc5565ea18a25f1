use Rattle.std.proofs.Common.{rules}
use Rattle.report_values.proofs.LineSteps.{line_lacks, line_more, lines_end}
use Rattle.report_values.proofs.reads.pass_lanes.Goals as goal

pub returns-in_err-_tracker : goal.returns-in_err-_tracker
returns-in_err-_tracker c =
    let lacks =
    line_lacks _ _ (λ t. t) c.loop-place.place c.args.captures (Unit {0}) c.loop-place.lines.rest.now c.lane_line.new.lines.rest.now c.lane_line.new.lines.rest.now _
    c.in_err-_tracker.field-0.0 c.loop-place-test.true c.loop-place.invariant c.in_err-_tracker.ensures in
    search (rules, lacks)

pub loop-place-preserved : goal.loop-place-preserved
loop-place-preserved c =
    line_more _ _ (λ t. t) c.loop-place.place c.args.captures c.loop-place.lines.rest.now c.lane_line.new.lines.rest.now _ c.in_ok-_tracker._tracker c.loop-place-test.true
    c.loop-place.invariant c.in_ok-_tracker.ensures

pub returns : goal.returns
returns c = lines_end _ _ (λ t. t) c.loop-place.place c.args.captures c.loop-place.lines.rest.now _ c.loop-place-test.false c.loop-place.invariant
