use Rattle.std.proofs.Common.{◌≡◌, ◌+◌, ℕ, length, map}
use Rattle.fw_world.specs.declared.lane_work.LaneWork.{LaneWork}
use Rattle.shared_world.proofs.closing.filled.Given as goal
use Rattle.shared_world.specs.Apart.{counted_in}

abbrev pub invariant-loop-work : goal.invariant-loop-work
invariant-loop-work l = record {
  room : l.columns.room + length l.yielded ≡ length l.fn.works.items;
  dockets : l.columns.dockets ≡ map (λ (entry : LaneWork × ℕ). entry.0.docket) l.yielded;
  tallies : l.columns.tallies ≡ map (λ (entry : LaneWork × ℕ). entry.0.tally) l.yielded;
  hits : l.columns.hits ≡ counted_in (map (λ (entry : LaneWork × ℕ). entry.0) l.yielded);
  trackers : l.columns.trackers ≡ map (λ (entry : LaneWork × ℕ). entry.1) l.yielded;
}
