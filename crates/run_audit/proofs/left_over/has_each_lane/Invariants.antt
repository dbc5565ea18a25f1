use Rattle.std.proofs.Common.{◌≡◌, ◌+◌, drop, map}
use Rattle.run_audit.specs.LeftOver.{has_each_lane}
use Rattle.run_audit.proofs.left_over.has_each_lane.Given as goal

abbrev pub invariant-loop-docket : goal.invariant-loop-docket
invariant-loop-docket l = record {
  same : has_each_lane l.told l.lane (map (λ docket. docket.entries) (drop l.docket-index l.dockets)) ≡ has_each_lane l.told 1 (map (λ docket. docket.entries) l.dockets);
  next : l.lane ≡ l.docket-index + 1;
}
