-- What an entry into a section of the serial world answers.
use Rattle.std.specs.Prelude.{ℕ, ◌==◌, if◌then◌else◌}
use Rattle.fw_world.specs.Lane.{LaneValue}
use Rattle.serial_world.specs.SerialLane.{inside_after_entry, lane_after_refusal}
use Rattle.serial_world.specs.declared.serial_lane.SerialEntry.{SerialEntry}
use Rattle.serial_world.specs.declared.serial_lane.SerialEntry.TheVariants.{In, Revoked}

-- the lane is in exactly where its number is the published one
abbrev pub entry_of : ℕ → LaneValue → SerialEntry
entry_of published lane = if lane.number == published then In (inside_after_entry lane) else Revoked (lane_after_refusal published lane) published
