use Rattle.std.specs.Option.{option_copied}
use Rattle.ipfw_parser.specs.Ports.{range}
use Rattle.ipfw_parser.specs.Lists.{elements, elements_left}
use Rattle.ipfw_parser.proofs.Steps.Lists.{IsListing, left_len}
use Rattle.ipfw_parser.proofs.ports.ranges.Given as goal

abbrev pub invariant-loop-rest : goal.invariant-loop-rest
invariant-loop-rest l = IsListing range l.word.column (elements l.word.text.now) l.found.items (elements_left (option_copied l.rest))

abbrev pub decreases-loop-rest : goal.decreases-loop-rest
decreases-loop-rest l = left_len l.rest
