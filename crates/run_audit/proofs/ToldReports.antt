-- What was read of a report, as what the report tells.
use Rattle.std.proofs.Common.{◌≡◌, ℕ, List, map}
use Rattle.std.specs.Arc.{arc_value}
use Rattle.run_audit.specs.Audit.{told_value}
use Rattle.run_audit.specs.ToldReport.{IsTold}
use Rattle.run_audit.specs.ToldValues.{value_of_report}
use Rattle.run_audit.specs.declared.told_report.ToldReport.{ToldReport}

-- its value is that of the report, under its editions and with its journal
pub told_is : (report : List ℕ) (told : ToldReport) → IsTold report told → value_of_report told ≡ told_value (map arc_value told.editions.items) told.book report
told_is report told h = λ i. record {
  editions = map arc_value told.editions.items;
  journal = told.book;
  records = h.records i;
  lanes = h.lanes i;
  ask_lines = h.asks i;
  lines = h.lines i;
}
