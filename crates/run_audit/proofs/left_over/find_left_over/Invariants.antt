use Rattle.std.proofs.Common.{◌≡◌, ◌≤◌, ◌+◌, length, map}
use Rattle.run_audit.specs.LeftOver.{first_left_over}
use Rattle.run_audit.specs.ToldReport.{lines_told}
use Rattle.run_audit.proofs.left_over.find_left_over.Given as goal

abbrev pub invariant-loop-line : goal.invariant-loop-line
invariant-loop-line l = record {
  same : first_left_over l.told (map (λ docket. docket.entries) l.dockets) l.number (lines_told l.rest) ≡ first_left_over l.told (map (λ docket. docket.entries) l.dockets) 1 (lines_told l.report);
  few : l.number + length l.rest ≤ 1 + length l.report;
}

abbrev pub decreases-loop-line : goal.decreases-loop-line
decreases-loop-line l = length l.rest
