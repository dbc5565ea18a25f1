use Rattle.std.proofs.Common.{◌≡◌, drop, map}
use Rattle.std.specs.Arc.{arc_value}
use Rattle.rule_edits.specs.Answers.{first_fault}
use Rattle.rule_edits.specs.Apply as spec
use Rattle.rule_edits.proofs.zero.zeroing_fault.Given as goal

abbrev pub invariant-loop-number : goal.invariant-loop-number
invariant-loop-number l = first_fault (spec.zeroing_fault (map arc_value l.rules)) l.numbers ≡ first_fault (spec.zeroing_fault (map arc_value l.rules)) (drop l.number-index l.numbers)
