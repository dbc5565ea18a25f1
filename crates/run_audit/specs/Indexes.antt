-- What the lines of records and the asks of the journal are found by.
use Rattle.std.specs.Prelude.{ℕ, Bool, ◌==◌}
use Rattle.run_audit.specs.declared.ask_stands.AskStand.{AskStand}
use Rattle.run_audit.specs.declared.told_report.ToldLane.{ToldLane}
use Rattle.run_audit.specs.declared.told_report.ToldRecord.{ToldRecord}

-- the record that a line names
abbrev pub record_number : ToldRecord → ℕ
record_number one = one.told.at

-- the line is of this capture
abbrev pub is_of_capture : ℕ → ToldRecord → Bool
is_of_capture capture one = one.told.capture == capture

-- the record that an ask is of
abbrev pub stand_number : AskStand → ℕ
stand_number stand = stand.at

-- the ask is of this lane
abbrev pub is_of_lane : ℕ → AskStand → Bool
is_of_lane lane stand = stand.lane == lane

-- the line is of this lane
abbrev pub is_line_of_lane : ℕ → ToldLane → Bool
is_line_of_lane lane one = one.told.lane == lane
