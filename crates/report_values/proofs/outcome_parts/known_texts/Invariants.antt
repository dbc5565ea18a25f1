-- The rules so far are told.
use Rattle.std.proofs.Common.{◌≡◌, take, flat_map}
use Rattle.report_values.specs.Outcomes.{rule_part}
use Rattle.report_values.proofs.outcome_parts.known_texts.Given as goal

abbrev pub invariant-loop-rule : goal.invariant-loop-rule
invariant-loop-rule l = l.told.items ≡ flat_map (rule_part l.edition l.number) (take l.rule-index l.known)
