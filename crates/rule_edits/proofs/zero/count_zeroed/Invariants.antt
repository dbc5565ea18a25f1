use Rattle.std.proofs.Common.{◌≡◌, ◌≤◌, map, take}
use Rattle.std.specs.Arc.{arc_value}
use Rattle.rule_edits.specs.Rules as lists
use Rattle.rule_edits.proofs.zero.count_zeroed.Given as goal

abbrev pub invariant-loop-rule : goal.invariant-loop-rule
invariant-loop-rule l = record {
  counted : l.count ≡ lists.count_of (lists.is_zeroed l.numbers) (map arc_value (take l.rule-index l.rules));
  fits : l.count ≤ l.rule-index;
}
