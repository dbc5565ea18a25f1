use Rattle.std.proofs.Common.{take}
use Rattle.rule_edits.specs.Marks.{AreMarked}
use Rattle.rule_edits.proofs.number_set.marks_of.Given as goal

abbrev pub invariant-loop-number : goal.invariant-loop-number
invariant-loop-number l = AreMarked (take l.number-index l.numbers) l.marks.items
