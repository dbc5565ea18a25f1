-- The lines of the records so far were read.
use Rattle.std.proofs.Common.{◌≡◌, ◌++◌, length}
use Rattle.report_texts.specs.DocketText.{record_lines}
use Rattle.report_values.proofs.capture.read_records.Given as goal

abbrev pub invariant-loop-place : goal.invariant-loop-place
invariant-loop-place l = record {
  lines : l.initial.lines.rest.now ≡ record_lines l.capture 1 l.records ++ l.lines.rest.now;
  count : length l.records ≡ l.place;
}
