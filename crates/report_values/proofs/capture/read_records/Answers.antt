use Rattle.std.proofs.Common.{length, ap, ◌+◌, arith}
use Rattle.std.proofs.lemmas.List.{length_push}
use Rattle.report_values.proofs.CaptureLines.{record_more}
use Rattle.report_values.proofs.capture.read_records.Goals as goal

pub loop-place-preserved : goal.loop-place-preserved
loop-place-preserved c =
    let pushed = c.in_ok-push-in-Some.ensures in
    record {
      lines =
          record_more c.args.capture (c.loop-place.place + 1) c.args.lines.now.rest.now c.loop-place.lines.rest.now c.record.new.self.rest.now
          c.loop-place.records c.push.new.self c.in-Some.entry c.loop-place.invariant.lines (omega (arith, c.loop-place.invariant.count))
          c.in-Some.ensures.told pushed;
      count = omega (arith, ap length pushed, length_push c.loop-place.records c.in-Some.entry, c.loop-place.invariant.count);
    }
