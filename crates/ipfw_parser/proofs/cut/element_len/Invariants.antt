use Rattle.ipfw_parser.proofs.Steps.Cuts.{IsSeeking}
use Rattle.ipfw_parser.proofs.cut.element_len.Given as goal

abbrev pub invariant-loop-at : goal.invariant-loop-at
invariant-loop-at l = IsSeeking l.text l.at l.inside
