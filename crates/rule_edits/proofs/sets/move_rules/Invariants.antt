use Rattle.std.proofs.Common.{◌≡◌, map}
use Rattle.std.specs.Arc.{arc_value}
use Rattle.rule_edits.specs.Moves.{set_after}
use Rattle.rule_edits.specs.Rules as lists
use Rattle.rule_edits.proofs.sets.move_rules.Given as goal

abbrev pub invariant-loop-rule : goal.invariant-loop-rule
invariant-loop-rule l = map arc_value l.moved.items ≡ lists.move_rules (set_after l.moves) (map arc_value l.yielded)
