use Rattle.std.proofs.Common.{◌≡◌, ℕ, take}
use Rattle.std.specs.List.{find}
use Rattle.run_audit.specs.Indexes.{is_line_of_lane}
use Rattle.run_audit.proofs.lane_index.firsts_of.Given as goal

abbrev pub invariant-loop-one : goal.invariant-loop-one
invariant-loop-one l = (lane : ℕ) → find (is_line_of_lane lane) l.firsts.items ≡ find (is_line_of_lane lane) (take l.one-index l.lanes)
