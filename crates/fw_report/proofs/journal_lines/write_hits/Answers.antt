use Rattle.std.proofs.Common.{arith, ◌+◌, drop}
use Rattle.fw_base.proofs.Texts.{ends}
use Rattle.rule_text.proofs.WriteSteps.{goes, breaks_off}
use Rattle.report_texts.specs.JournalText.{hits_text}
use Rattle.report_texts.proofs.Sections.{next_hits, no_hits}
use Rattle.fw_report.proofs.journal_lines.write_hits.Goals as goal

pub returns-in_err-write_lane_hits : goal.returns-in_err-write_lane_hits
returns-in_err-write_lane_hits g c =
    let next = next_hits c.loop-count.lane c.loop-count.count-index c.args.hits.now c.loop-count-test.true in
    breaks_off _ _ (hits_text (c.loop-count.lane + 1) (drop (c.loop-count.count-index + 1) c.args.hits.now)) c.loop-count.invariant.written next c.in_err-write_lane_hits.was c.write_lane_hits.ensures c.from_residual.ensures.1

pub loop-count-preserved : goal.loop-count-preserved
loop-count-preserved g c =
    let next = next_hits c.loop-count.lane c.loop-count.count-index c.args.hits.now c.loop-count-test.true in
    record {
      number = omega (arith, c.loop-count.invariant.number);
      written = goes (hits_text (c.loop-count.lane + 1) (drop (c.loop-count.count-index + 1) c.args.hits.now)) c.loop-count.invariant.written next c.in_ok-write_lane_hits.was c.write_lane_hits.ensures;
    }

pub returns : goal.returns
returns g c = ends _ _ _ _ _ c.loop-count.invariant.written (no_hits c.loop-count.lane c.loop-count.count-index c.args.hits.now c.loop-count-test.false)
