-- The kinds so far have their numbers.
use Rattle.std.proofs.Common.{map, take}
use Rattle.report_values.specs.Outcomes.{NumbersAll, outcome_text}
use Rattle.report_values.proofs.outcomes.numbers_of_kinds.Given as goal

abbrev pub invariant-loop-kind : goal.invariant-loop-kind
invariant-loop-kind l = NumbersAll l.initial.texts l.texts (map (outcome_text l.known) (take l.kind-index l.kinds)) l.numbers.items
