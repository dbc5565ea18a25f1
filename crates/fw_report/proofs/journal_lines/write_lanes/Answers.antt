use Rattle.std.proofs.Common.{◌≡◌, ◌∙◌, ℕ, List, ◌+◌, ◌++◌, ap, sym, length, drop, arith}
use Rattle.fw_base.proofs.Texts.{ends}
use Rattle.rule_text.proofs.WriteSteps.{goes, breaks_off}
use Rattle.report_texts.specs.JournalText.{lane_line, lanes_text}
use Rattle.report_texts.proofs.Sections.{next_lane, no_tracker, no_lane}
use Rattle.fw_report.proofs.journal_lines.write_lanes.Goals as goal

pub returns-in_default : goal.returns-in_default
returns-in_default g c =
    let none : length c.loop-docket.rest.now ≡ 0 = c.in_default.ensures.cases in
    ends _ _ _ _ _ c.loop-docket.invariant.written (no_tracker c.loop-docket.lane (drop c.loop-docket.docket-index c.args.dockets.now) c.loop-docket.rest.now none)

pub returns-in_err-write_lane : goal.returns-in_err-write_lane
returns-in_err-write_lane g c =
    let rest : List ℕ = lanes_text (c.loop-docket.lane + 1) (drop (c.loop-docket.docket-index + 1) c.args.dockets.now) c.in-Some.others.now in
    let next = next_lane c.loop-docket.lane c.loop-docket.docket-index c.args.dockets.now c.loop-docket.rest.now c.in-Some.others.now c.in-Some.tracker.now c.docket-item.result c.loop-docket-test.true c.docket-item.is c.in-Some.ensures.cases.0 in
    breaks_off _ _ rest c.loop-docket.invariant.written (next ∙ ap (λ (n : ℕ). lane_line c.loop-docket.lane n c.in-Some.tracker.now ++ rest) (sym c.refused.ensures)) c.in_err-write_lane.was c.write_lane.ensures c.from_residual.ensures.1

pub loop-docket-preserved : goal.loop-docket-preserved
loop-docket-preserved g c =
    let rest : List ℕ = lanes_text (c.loop-docket.lane + 1) (drop (c.loop-docket.docket-index + 1) c.args.dockets.now) c.in-Some.others.now in
    let next = next_lane c.loop-docket.lane c.loop-docket.docket-index c.args.dockets.now c.loop-docket.rest.now c.in-Some.others.now c.in-Some.tracker.now c.docket-item.result c.loop-docket-test.true c.docket-item.is c.in-Some.ensures.cases.0 in
    record {
      number = omega (arith, c.loop-docket.invariant.number);
      written = goes rest c.loop-docket.invariant.written (next ∙ ap (λ (n : ℕ). lane_line c.loop-docket.lane n c.in-Some.tracker.now ++ rest) (sym c.refused.ensures)) c.in_ok-write_lane.was c.write_lane.ensures;
    }

pub returns : goal.returns
returns g c = ends _ _ _ _ _ c.loop-docket.invariant.written (no_lane c.loop-docket.lane c.loop-docket.docket-index c.args.dockets.now c.loop-docket.rest.now c.loop-docket-test.false)
