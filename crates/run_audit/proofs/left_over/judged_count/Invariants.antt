use Rattle.std.proofs.Common.{◌≡◌, ◌≤◌, ◌+◌, drop, length}
use Rattle.fw_world.specs.Sections.{judged_editions}
use Rattle.run_audit.proofs.left_over.judged_count.Given as goal

abbrev pub invariant-loop-entry : goal.invariant-loop-entry
invariant-loop-entry l = record {
  counted : l.count + length (judged_editions (drop l.entry-index l.entries)) ≡ length (judged_editions l.entries);
  few : l.count ≤ l.entry-index;
}
