use Rattle.std.proofs.Common.{◌≡◌, drop, map}
use Rattle.std.specs.List.{list_all}
use Rattle.run_audit.specs.NothingLeft.{is_right_lane}
use Rattle.run_audit.proofs.left_over.are_right_lanes.Given as goal

abbrev pub invariant-loop-one : goal.invariant-loop-one
invariant-loop-one l =
    list_all (is_right_lane l.told (map (λ docket. docket.entries) l.dockets)) (drop l.one-index l.lanes) ≡ list_all (is_right_lane l.told (map (λ docket. docket.entries) l.dockets)) l.lanes
