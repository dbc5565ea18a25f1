-- The lines before the rest were read.
use Rattle.std.proofs.Common.{◌≡◌, ◌+◌, ◌≤◌, length, map}
use Rattle.std.specs.Arc.{arc_value}
use Rattle.report_reading.specs.Lines.{lines_with_ends}
use Rattle.run_audit.specs.Forms.{first_unformed}
use Rattle.run_audit.proofs.ReadLines.{IsReadTo}
use Rattle.run_audit.proofs.reading_told.told_report.Given as goal

abbrev pub invariant-loop-telling : goal.invariant-loop-telling
invariant-loop-telling l = record {
  read : IsReadTo (map arc_value l.editions.items) l.report l.line l.rest l.telling;
  formed : first_unformed l.line (lines_with_ends l.rest) ≡ first_unformed 1 (lines_with_ends l.report);
  first : 1 ≤ l.line;
  few : l.line + length l.rest ≤ 1 + length l.report;
}

abbrev pub decreases-loop-telling : goal.decreases-loop-telling
decreases-loop-telling l = length l.rest
