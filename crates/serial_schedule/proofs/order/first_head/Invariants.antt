use Rattle.std.proofs.Common.{◌≡◌, ◌≤◌, length, drop}
use Rattle.serial_schedule.specs.Order.{first_head}
use Rattle.serial_schedule.proofs.order.first_head.Given as goal

abbrev pub invariant-loop-capture : goal.invariant-loop-capture
invariant-loop-capture l = record {
  within : l.capture ≤ length l.moments;
  first : l.first ≡ first_head l.capture (drop l.capture l.moments);
}

abbrev pub decreases-loop-capture : goal.decreases-loop-capture
decreases-loop-capture l = l.capture
