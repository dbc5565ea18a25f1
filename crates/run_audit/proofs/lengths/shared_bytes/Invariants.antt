use Rattle.std.proofs.Common.{◌≡◌, ◌≤◌, length, drop, nat_eq, ◌+◌}
use Rattle.std.specs.List.{common_prefix_len}
use Rattle.run_audit.proofs.lengths.shared_bytes.Given as goal

abbrev pub invariant-loop-at : goal.invariant-loop-at
invariant-loop-at l = record {
  same : l.at + common_prefix_len nat_eq (drop l.at l.first) (drop l.at l.second) ≡ common_prefix_len nat_eq l.first l.second;
  inside : l.at ≤ length l.second;
}
