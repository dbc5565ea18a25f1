-- A report that was read, as the value of what it tells.
use Rattle.std.specs.Prelude.{map}
use Rattle.std.specs.Arc.{arc_value}
use Rattle.run_audit.specs.Judging.{ToldValue}
use Rattle.run_audit.specs.declared.told_report.ToldReport.{ToldReport}

-- what it tells
abbrev pub value_of_report : ToldReport → ToldValue
value_of_report told = record {
  editions = map arc_value told.editions.items;
  journal = told.book;
  records = told.records.items;
  lanes = told.lanes.items;
  ask_lines = told.ask_lines.items;
  lines = told.lines;
}
