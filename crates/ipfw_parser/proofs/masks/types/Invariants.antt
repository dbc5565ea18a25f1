use Rattle.std.proofs.Common.{◌≡◌}
use Rattle.std.specs.Option.{option_copied}
use Rattle.ipfw_parser.specs.Lists.{elements, elements_left, type_mask}
use Rattle.ipfw_parser.proofs.Steps.Lists.{left_len}
use Rattle.ipfw_parser.proofs.masks.types.Given as goal

abbrev pub invariant-loop-rest : goal.invariant-loop-rest
invariant-loop-rest l = type_mask l.mask l.word.column (elements_left (option_copied l.rest)) ≡ type_mask 0 l.word.column (elements l.word.text.now)

abbrev pub decreases-loop-rest : goal.decreases-loop-rest
decreases-loop-rest l = left_len l.rest
