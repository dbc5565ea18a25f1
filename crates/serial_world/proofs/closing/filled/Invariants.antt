use Rattle.std.proofs.Common.{◌≡◌, ◌+◌, length, map}
use Rattle.std.specs.List.{AllByRecursion}
use Rattle.fw_world.specs.RecordedHits.{counted_by}
use Rattle.fw_world.specs.Lane.{LaneValue}
use Rattle.fw_world.specs.LaneKept.{IsLane}
use Rattle.serial_world.proofs.closing.filled.Given as goal

abbrev pub invariant-loop-lane : goal.invariant-loop-lane
invariant-loop-lane l = record {
  room : l.columns.room + length l.yielded ≡ length l.fn.lanes.items;
  dockets : l.columns.dockets ≡ map (λ (lane : LaneValue). lane.docket) l.yielded;
  tallies : l.columns.tallies ≡ map (λ (lane : LaneValue). lane.tally) l.yielded;
  trackers : l.columns.trackers ≡ map (λ (lane : LaneValue). lane.tracker) l.yielded;
  hits : l.columns.hits ≡ counted_by l.yielded;
  kept : AllByRecursion (IsLane 0) l.yielded;
}
