use Rattle.std.proofs.Common.{◌≡◌, ◌++◌, ◌-◌, ◌+◌}
use Rattle.serial_world.specs.SerialLane.{first_lanes}
use Rattle.serial_world.proofs.opening.open_lanes.Given as goal

abbrev pub invariant-loop-place : goal.invariant-loop-place
invariant-loop-place l = l.opened.items ++ first_lanes l.cache l.place (l.lanes + 1 - l.place) ≡ first_lanes l.cache 1 l.lanes
