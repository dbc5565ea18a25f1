use Rattle.std.proofs.Common.{◌≡◌, ◌+◌, map}
use Rattle.std.specs.Arc.{arc_value}
use Rattle.rule_edits.specs.Rules as lists
use Rattle.rule_edits.proofs.zero.renumber.Given as goal

abbrev pub invariant-loop-rule : goal.invariant-loop-rule
invariant-loop-rule l = record {
  given : l.next ≡ l.first + lists.count_of (lists.is_zeroed l.numbers) (map arc_value l.yielded);
  same : map arc_value l.renumbered.items ≡ lists.renumber (lists.is_zeroed l.numbers) l.first (map arc_value l.yielded);
}
