use Rattle.std.proofs.Common.{◌≡◌, ◌≤◌, drop, ◌+◌}
use Rattle.run_audit.specs.Comparison.{line_ends}
use Rattle.run_audit.proofs.lengths.line_ends.Given as goal

abbrev pub invariant-loop-byte : goal.invariant-loop-byte
invariant-loop-byte l = record {
  counted : l.count + line_ends (drop l.byte-index l.text) ≡ line_ends l.text;
  low : l.count ≤ l.byte-index;
}
