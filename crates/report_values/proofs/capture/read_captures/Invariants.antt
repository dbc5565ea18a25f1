-- The lines of the captures so far were read, each with its end.
use Rattle.std.proofs.Common.{◌≡◌, ◌++◌, length}
use Rattle.report_values.specs.Captures.{captures_lines, HaveEnds}
use Rattle.report_values.proofs.capture.read_captures.Given as goal

abbrev pub invariant-loop-place : goal.invariant-loop-place
invariant-loop-place l = record {
  lines : l.initial.lines.rest.now ≡ captures_lines 1 l.captures.items ++ l.lines.rest.now;
  count : length l.captures.items ≡ l.place;
  ends : HaveEnds 1 l.captures.items;
}
