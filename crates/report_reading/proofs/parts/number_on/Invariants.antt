use Rattle.std.proofs.Common.{◌≡◌, ◌≤◌, drop}
use Rattle.report_reading.specs.Parts.{number_on}
use Rattle.report_reading.proofs.parts.number_on.Given as goal

abbrev pub invariant-loop-at : goal.invariant-loop-at
invariant-loop-at l = record {
  same : number_on l.most l.value (drop l.at l.text) ≡ number_on l.most 0 l.text;
  low : l.value ≤ l.most;
}
