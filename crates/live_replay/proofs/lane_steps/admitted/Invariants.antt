-- The lane is at its post, and holds a number below 2^64.
use Rattle.std.proofs.Common.{◌-◌, ◌^◌}
use Rattle.live_replay.specs.Posted.{StaysPosted}
use Rattle.live_replay.proofs.lane_steps.admitted.Given as goal

abbrev pub invariant-loop-inside : goal.invariant-loop-inside
invariant-loop-inside g l = StaysPosted l.world l.fn.lane l.lane

abbrev pub decreases-loop-inside : goal.decreases-loop-inside
decreases-loop-inside g l = 2 ^ 64 - l.lane.number
