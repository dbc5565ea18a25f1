use Rattle.std.proofs.Common.{length, ap, sym, ◌∙◌, ◌+◌, ◌≡◌, arith}
use Rattle.std.proofs.lemmas.List.{length_push}
use Rattle.report_values.proofs.BehindCaptures.{behind_captures}
use Rattle.report_values.proofs.CaptureLines.{capture_more}
use Rattle.report_values.proofs.CaptureEnds.{ends_more, unfit_capture}
use Rattle.report_values.proofs.capture.read_captures.Goals as goal

pub returns-in-None-clause-cause : goal.returns-in-None-clause-cause
returns-in-None-clause-cause c =
    let cut = rw c.in-None.is at c.in_ok-capture.ensures.lines in
    unfit_capture c.args.lines.now.rest.now c.loop-place.lines.rest.now c.read_capture.new.lines.rest.now c.loop-place.captures.items
    (c.loop-place.place + 1) c.loop-place.invariant.lines c.loop-place.invariant.ends
    (sym c.begins_capture_line.ensures ∙ c.if-begins_capture_line.true) (omega (arith, c.loop-place.invariant.count)) cut

pub returns-in-None-2-clause-behind : goal.returns-in-None-2-clause-behind
returns-in-None-2-clause-behind c =
    behind_captures c.loop-place.lines.rest.now (sym c.begins_capture_line.ensures ∙ c.if-begins_capture_line.false)

pub loop-place-preserved : goal.loop-place-preserved
loop-place-preserved c =
    let pushed = c.in_ok-push-in-Some.ensures.items in
    let told = rw c.in-Some.is at c.in_ok-capture.ensures.lines in
    let ended = rw c.in-Some.is at c.in_ok-capture.ensures.end in
    let place : 1 + length c.loop-place.captures.items ≡ c.loop-place.place + 1 = omega (arith, c.loop-place.invariant.count) in
    record {
      lines =
          capture_more (c.loop-place.place + 1) c.args.lines.now.rest.now c.loop-place.lines.rest.now c.read_capture.new.lines.rest.now
          c.loop-place.captures.items c.push.new.self.items c.in-Some.capture c.loop-place.invariant.lines place told pushed;
      count = omega (arith, ap length pushed, length_push c.loop-place.captures.items c.in-Some.capture, c.loop-place.invariant.count);
      ends = ends_more (c.loop-place.place + 1) c.loop-place.captures.items c.push.new.self.items c.in-Some.capture c.loop-place.invariant.ends place
          ended pushed;
    }

pub returns-clause-behind : goal.returns-clause-behind
returns-clause-behind c =
    behind_captures c.loop-place.lines.rest.now (sym c.begins_capture_line-2.ensures ∙ c.if-begins_capture_line-2.false)
