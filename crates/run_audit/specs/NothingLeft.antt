-- That nothing is left over behind the records, by what was kept of the lines: the records that they name, the asks of
-- the journal that they tell, and the lines of lanes.
use Rattle.std.specs.Prelude.{◌≡◌, Bool, true, ◌&&◌, not, is_some, List}
use Rattle.std.specs.List.{list_all}
use Rattle.eval_engine.specs.declared.docket_entry.DocketEntry.{DocketEntry}
use Rattle.report_reading.specs.Readings.{LineValue}
use Rattle.state_journal.specs.declared.entry.Entry.{Entry}
use Rattle.state_journal.specs.declared.entry.Entry.TheVariants.{Publish, Ask}
use Rattle.run_audit.specs.AskNames.{names_in, names_told}
use Rattle.run_audit.specs.Judging.{ToldValue}
use Rattle.run_audit.specs.LeftOver.{is_judged, is_wrong_lane}
use Rattle.run_audit.specs.OtherLines.{entry_at}
use Rattle.run_audit.specs.ToldReport.{records_from, lanes_from}
use Rattle.run_audit.specs.declared.told_report.ToldLane.{ToldLane}
use Rattle.run_audit.specs.declared.told_report.ToldRecord.{ToldRecord}

-- the record that a line names is one that its capture gives
abbrev pub is_given : List (List DocketEntry) → ToldRecord → Bool
is_given dockets one = is_some (entry_at dockets one.told.capture one.told.at)

-- an entry of the journal is of a record that was judged, where it is an ask
abbrev pub is_of_judged : List (List DocketEntry) → Entry → Bool
is_of_judged dockets (Publish number) = true
is_of_judged dockets (Ask lane op reply at) = is_judged dockets lane at

-- the line of a lane isn't the first of its lane, or tells the sections of its docket
abbrev pub is_right_lane : ToldValue → List (List DocketEntry) → ToldLane → Bool
is_right_lane told dockets one = not (is_wrong_lane told dockets one.line one.told)

-- each record that a line names is given, each ask is of a record that was judged, and no line of a lane is wrong
abbrev pub is_nothing_left : ToldValue → List (List DocketEntry) → Bool
is_nothing_left told dockets =
    list_all (is_given dockets) told.records && (list_all (is_of_judged dockets) told.journal.entries && list_all (is_right_lane told dockets) told.lanes)

-- what was kept is that of these lines: their records, their lanes, and a journal of their asks
pub record IsKeptOf (values : List LineValue) (told : ToldValue) : Type 0 where
  pub records : told.records ≡ records_from 1 values
  pub lanes : told.lanes ≡ lanes_from 1 values
  pub asks : names_in told.journal.entries ≡ names_told values
