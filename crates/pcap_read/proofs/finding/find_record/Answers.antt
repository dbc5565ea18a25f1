use Rattle.std.proofs.Common.{◌+◌, length, sym, ◌∙◌, ap, refl, arith, length-append}
use Rattle.std.proofs.lemmas.Result.{err_from_is_err_and}
use Rattle.pcap_read.specs.Reading.{AtBoundary, InRecordHeader, InRecord, Closed, captured_length}
use Rattle.pcap_read.proofs.Growing.{grows_more}
use Rattle.fw_base.proofs.Logic.{was_true, was_false}
use Rattle.pcap_read.proofs.Steps.{captured_length-grown, at_boundary, too_many, in_record_header, too_long, in_record, took, stops_failed, stops_at_end}
use Rattle.pcap_read.proofs.finding.find_record.Goals as goal

pub returns-in_err-fill-clause-finds : goal.returns-in_err-fill-clause-finds
returns-in_err-fill-clause-finds g c =
    let p = err_from_is_err_and c.from_residual.result c.from_residual.ensures.1 in
    rw (p.1, p.2) (stops_failed c.args.limit c.args.format c.args.given c.fill.new.window AtBoundary (at_boundary _ _ _ _ (omega (arith, c.in_err-fill.ensures.fills.1))) c.in_err-fill.ensures.cause.failed)

pub returns-then-not-branch-clause-finds : goal.returns-then-not-branch-clause-finds
returns-then-not-branch-clause-finds g c =
    let here = was_false _ _ c.in_ok-fill.field-0 c.if-not-branch.true c.in_ok-fill.ensures.fills.1 in
    stops_at_end c.args.limit c.args.format c.args.given c.fill.new.window AtBoundary (at_boundary _ _ _ _ (omega (arith, here.0))) here.1

pub returns-then-given-limit-clause-finds : goal.returns-then-given-limit-clause-finds
returns-then-given-limit-clause-finds g c =
    let some = was_true _ _ c.in_ok-fill.field-0 c.if-not-branch.false c.in_ok-fill.ensures.fills.1 in
    (Closed _, too_many c.args.limit c.args.format c.args.given c.fill.new.window (omega (arith, some)) c.if-given-limit.true, refl)

pub returns-in_err-fill-2-clause-finds : goal.returns-in_err-fill-2-clause-finds
returns-in_err-fill-2-clause-finds g c =
    let some = was_true _ _ c.in_ok-fill.field-0 c.if-not-branch.false c.in_ok-fill.ensures.fills.1 in
    let grown = c.in_err-fill-2.ensures.fills.0 in
    let longer = ap length grown.1 ∙ length-append c.fill.new.window grown.0 in
    let p = err_from_is_err_and c.from_residual-in_err-fill-2.result c.from_residual-in_err-fill-2.ensures.1 in
    rw (p.1, p.2) (stops_failed c.args.limit c.args.format c.args.given c.fill-2.new.window InRecordHeader
    (in_record_header _ _ _ _ (omega (arith, some, longer)) c.if-given-limit.false c.in_err-fill-2.ensures.fills.1)
    (omega (arith, c.in_err-fill-2.ensures.cause.failed, c.in_ok-fill.ensures.cause.later)))

pub returns-then-not-branch-2-clause-finds : goal.returns-then-not-branch-2-clause-finds
returns-then-not-branch-2-clause-finds g c =
    let some = was_true _ _ c.in_ok-fill.field-0 c.if-not-branch.false c.in_ok-fill.ensures.fills.1 in
    let here = was_false _ _ c.in_ok-fill-2.field-0 c.if-not-branch-2.true c.in_ok-fill-2.ensures.fills.1 in
    let grown = c.in_ok-fill-2.ensures.fills.0 in
    let longer = ap length grown.1 ∙ length-append c.fill.new.window grown.0 in
    stops_at_end c.args.limit c.args.format c.args.given c.fill-2.new.window InRecordHeader
    (in_record_header _ _ _ _ (omega (arith, some, longer)) c.if-given-limit.false here.0) here.1

pub returns-then-captured-gt-MOST_RECORD_BYTES-clause-finds : goal.returns-then-captured-gt-MOST_RECORD_BYTES-clause-finds
returns-then-captured-gt-MOST_RECORD_BYTES-clause-finds g c =
    let whole = was_true _ _ c.in_ok-fill-2.field-0 c.if-not-branch-2.false c.in_ok-fill-2.ensures.fills.1 in
    let is = c.u32_at-captured.ensures ∙ ap (captured_length c.args.format) c.bytes.ensures in
    (Closed _, too_long c.args.limit c.args.format c.args.given c.fill-2.new.window c.if-given-limit.false whole (omega (arith, is, c.if-captured-gt-MOST_RECORD_BYTES.true)), refl)

pub returns-in_err-fill-3-clause-grows : goal.returns-in_err-fill-3-clause-grows
returns-in_err-fill-3-clause-grows g c =
    grows_more _ _ _ _ _ _ (grows_more _ _ _ _ _ _ c.in_ok-fill.ensures.fills.0 c.in_ok-fill-2.ensures.fills.0) c.in_err-fill-3.ensures.fills.0

pub returns-in_err-fill-3-clause-finds : goal.returns-in_err-fill-3-clause-finds
returns-in_err-fill-3-clause-finds g c =
    let whole = was_true _ _ c.in_ok-fill-2.field-0 c.if-not-branch-2.false c.in_ok-fill-2.ensures.fills.1 in
    let grown = c.in_err-fill-3.ensures.fills.0 in
    let longer = ap length grown.1 ∙ length-append c.fill-2.new.window grown.0 in
    let is = captured_length-grown c.args.format c.fill-2.new.window c.fill-3.new.window grown.0 whole grown.1 ∙ sym (c.u32_at-captured.ensures ∙ ap (captured_length c.args.format) c.bytes.ensures) in
    let p = err_from_is_err_and c.from_residual-in_err-fill-3.result c.from_residual-in_err-fill-3.ensures.1 in
    rw (p.1, p.2) (stops_failed c.args.limit c.args.format c.args.given c.fill-3.new.window InRecord
    (in_record _ _ _ _ c.if-given-limit.false (omega (arith, whole, longer)) (omega (arith, is, c.if-captured-gt-MOST_RECORD_BYTES.false)) (omega (arith, is, c.in_err-fill-3.ensures.fills.1)))
    (omega (arith, c.in_err-fill-3.ensures.cause.failed, c.in_ok-fill-2.ensures.cause.later, c.in_ok-fill.ensures.cause.later)))

pub returns-then-not-branch-3-clause-grows : goal.returns-then-not-branch-3-clause-grows
returns-then-not-branch-3-clause-grows g c =
    grows_more _ _ _ _ _ _ (grows_more _ _ _ _ _ _ c.in_ok-fill.ensures.fills.0 c.in_ok-fill-2.ensures.fills.0) c.in_ok-fill-3.ensures.fills.0

pub returns-then-not-branch-3-clause-finds : goal.returns-then-not-branch-3-clause-finds
returns-then-not-branch-3-clause-finds g c =
    let whole = was_true _ _ c.in_ok-fill-2.field-0 c.if-not-branch-2.false c.in_ok-fill-2.ensures.fills.1 in
    let here = was_false _ _ c.in_ok-fill-3.field-0 c.if-not-branch-3.true c.in_ok-fill-3.ensures.fills.1 in
    let grown = c.in_ok-fill-3.ensures.fills.0 in
    let longer = ap length grown.1 ∙ length-append c.fill-2.new.window grown.0 in
    let is = captured_length-grown c.args.format c.fill-2.new.window c.fill-3.new.window grown.0 whole grown.1 ∙ sym (c.u32_at-captured.ensures ∙ ap (captured_length c.args.format) c.bytes.ensures) in
    stops_at_end c.args.limit c.args.format c.args.given c.fill-3.new.window InRecord
    (in_record _ _ _ _ c.if-given-limit.false (omega (arith, whole, longer)) (omega (arith, is, c.if-captured-gt-MOST_RECORD_BYTES.false)) (omega (arith, is, here.0))) here.1

pub returns-clause-grows : goal.returns-clause-grows
returns-clause-grows g c =
    grows_more _ _ _ _ _ _ (grows_more _ _ _ _ _ _ c.in_ok-fill.ensures.fills.0 c.in_ok-fill-2.ensures.fills.0) c.in_ok-fill-3.ensures.fills.0

pub returns-clause-finds : goal.returns-clause-finds
returns-clause-finds g c =
    let whole = was_true _ _ c.in_ok-fill-2.field-0 c.if-not-branch-2.false c.in_ok-fill-2.ensures.fills.1 in
    let there = was_true _ _ c.in_ok-fill-3.field-0 c.if-not-branch-3.false c.in_ok-fill-3.ensures.fills.1 in
    let grown = c.in_ok-fill-3.ensures.fills.0 in
    let is = captured_length-grown c.args.format c.fill-2.new.window c.fill-3.new.window grown.0 whole grown.1 ∙ sym (c.u32_at-captured.ensures ∙ ap (captured_length c.args.format) c.bytes.ensures) in
    record {
      took = took c.args.limit c.args.format c.args.given c.fill-3.new.window (16 + c.u32_at-captured.result) c.if-given-limit.false (omega (arith, is, c.if-captured-gt-MOST_RECORD_BYTES.false)) (omega (arith, is)) there;
      header = omega arith;
      within = there;
      most = omega (arith, c.if-captured-gt-MOST_RECORD_BYTES.false);
      few = c.if-given-limit.false;
    }
