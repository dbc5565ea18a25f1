use Rattle.std.proofs.Common.{◌≡◌, ◌≤◌, length, ◌+◌}
use Rattle.report_reading.specs.Lines.{lines_with_ends}
use Rattle.run_audit.specs.Forms.{first_unformed}
use Rattle.run_audit.proofs.forms.first_unformed.Given as goal

abbrev pub invariant-loop-line : goal.invariant-loop-line
invariant-loop-line l = record {
  same : first_unformed l.number (lines_with_ends l.rest) ≡ first_unformed 1 (lines_with_ends l.report);
  few : l.number + length l.rest ≤ 1 + length l.report;
}

abbrev pub decreases-loop-line : goal.decreases-loop-line
decreases-loop-line l = length l.rest
