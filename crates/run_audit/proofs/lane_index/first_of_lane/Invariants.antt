use Rattle.std.proofs.Common.{◌≡◌, drop}
use Rattle.std.specs.List.{find}
use Rattle.run_audit.specs.Indexes.{is_line_of_lane}
use Rattle.run_audit.proofs.lane_index.first_of_lane.Given as goal

abbrev pub invariant-loop-one : goal.invariant-loop-one
invariant-loop-one l = find (is_line_of_lane l.lane) (drop l.one-index l.lanes) ≡ find (is_line_of_lane l.lane) l.lanes
