use Rattle.std.proofs.Common.{◌≡◌, ◌∙◌, ℕ, List, ◌+◌, ◌++◌, ap, sym, length, drop, arith}
use Rattle.fw_base.proofs.Texts.{ends}
use Rattle.rule_text.proofs.WriteSteps.{goes, breaks_off}
use Rattle.eval_engine.specs.declared.docket_entry.DocketEntry.{DocketEntry}
use Rattle.report_texts.specs.DocketText.{capture_text, captures_text}
use Rattle.report_texts.proofs.Sections.{next_capture, no_capture_end, no_capture}
use Rattle.fw_report.proofs.docket_lines.write_captures.Goals as goal

pub returns-in_default : goal.returns-in_default
returns-in_default g c =
    let none : length c.loop-docket.rest.now ≡ 0 = c.in_default.ensures.cases in
    ends _ _ _ _ _ c.loop-docket.invariant.written (no_capture_end c.loop-docket.capture (drop c.loop-docket.docket-index c.args.dockets.now) c.loop-docket.rest.now none)

pub returns-in_err-write_capture : goal.returns-in_err-write_capture
returns-in_err-write_capture g c =
    let rest : List ℕ = captures_text (c.loop-docket.capture + 1) (drop (c.loop-docket.docket-index + 1) c.args.dockets.now) c.in-Some.others.now in
    let next = next_capture c.loop-docket.capture c.loop-docket.docket-index c.args.dockets.now c.loop-docket.rest.now c.in-Some.others.now c.in-Some.end.now c.docket-item.result c.loop-docket-test.true c.docket-item.is c.in-Some.ensures.cases.0 in
    breaks_off _ _ rest c.loop-docket.invariant.written (next ∙ ap (λ (es : List DocketEntry). capture_text c.loop-docket.capture es c.in-Some.end.now ++ rest) (sym c.entries.ensures)) c.in_err-write_capture.was c.write_capture.ensures c.from_residual.ensures.1

pub loop-docket-preserved : goal.loop-docket-preserved
loop-docket-preserved g c =
    let rest : List ℕ = captures_text (c.loop-docket.capture + 1) (drop (c.loop-docket.docket-index + 1) c.args.dockets.now) c.in-Some.others.now in
    let next = next_capture c.loop-docket.capture c.loop-docket.docket-index c.args.dockets.now c.loop-docket.rest.now c.in-Some.others.now c.in-Some.end.now c.docket-item.result c.loop-docket-test.true c.docket-item.is c.in-Some.ensures.cases.0 in
    record {
      number = omega (arith, c.loop-docket.invariant.number);
      written = goes rest c.loop-docket.invariant.written (next ∙ ap (λ (es : List DocketEntry). capture_text c.loop-docket.capture es c.in-Some.end.now ++ rest) (sym c.entries.ensures)) c.in_ok-write_capture.was c.write_capture.ensures;
    }

pub returns : goal.returns
returns g c = ends _ _ _ _ _ c.loop-docket.invariant.written (no_capture c.loop-docket.capture c.loop-docket.docket-index c.args.dockets.now c.loop-docket.rest.now c.loop-docket-test.false)
