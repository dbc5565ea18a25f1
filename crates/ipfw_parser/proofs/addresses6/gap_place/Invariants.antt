use Rattle.ipfw_parser.proofs.Steps.Gaps.{IsBeforeGap}
use Rattle.ipfw_parser.proofs.addresses6.gap_place.Given as goal

abbrev pub invariant-loop-at : goal.invariant-loop-at
invariant-loop-at l = IsBeforeGap l.text l.at
