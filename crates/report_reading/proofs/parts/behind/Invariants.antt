use Rattle.std.proofs.Common.{◌≡◌, drop}
use Rattle.report_reading.specs.Parts.{behind}
use Rattle.report_reading.proofs.parts.behind.Given as goal

abbrev pub invariant-loop-at : goal.invariant-loop-at
invariant-loop-at l = behind (drop l.at l.word) (drop l.at l.text) ≡ behind l.word l.text
