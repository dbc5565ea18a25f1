use Rattle.std.proofs.Common.{◌≡◌, drop, map}
use Rattle.std.specs.Arc.{arc_value}
use Rattle.std.specs.List.{list_any}
use Rattle.rule_edits.specs.Uses.{names_table}
use Rattle.rule_edits.proofs.table_changes.is_named.Given as goal

abbrev pub invariant-loop-rule : goal.invariant-loop-rule
invariant-loop-rule l = list_any (names_table l.name) (map arc_value l.rules) ≡ list_any (names_table l.name) (map arc_value (drop l.rule-index l.rules))
