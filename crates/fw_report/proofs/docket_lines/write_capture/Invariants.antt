-- The lines of the records so far were written.
use Rattle.std.proofs.Common.{◌≡◌, ◌+◌, ◌++◌, drop}
use Rattle.fw_base.proofs.Texts.{IsUnderWay}
use Rattle.report_texts.specs.DocketText.{record_lines, end_line, capture_text}
use Rattle.fw_report.proofs.docket_lines.write_capture.Given as goal

abbrev pub invariant-loop-entry : goal.invariant-loop-entry
invariant-loop-entry g l = record {
  number : l.at ≡ l.entry-index + 1;
  written : IsUnderWay (g.K.Sink.state l.initial.out) (g.K.Sink.state l.out)
      (capture_text l.capture l.entries l.end) (record_lines l.capture l.at (drop l.entry-index l.entries) ++ end_line l.capture l.end);
}
