use Rattle.std.proofs.Common.{false}
use Rattle.std.specs.Option.{option_copied}
use Rattle.ipfw_parser.specs.Addresses.{item}
use Rattle.ipfw_parser.specs.Lists.{elements_outside, elements_outside_left}
use Rattle.ipfw_parser.proofs.Steps.Lists.{IsListing, left_len}
use Rattle.ipfw_parser.proofs.addresses.items.Given as goal

abbrev pub invariant-loop-rest : goal.invariant-loop-rest
invariant-loop-rest l = IsListing item l.word.column (elements_outside false l.word.text.now) l.found.items (elements_outside_left (option_copied l.rest))

abbrev pub decreases-loop-rest : goal.decreases-loop-rest
decreases-loop-rest l = left_len l.rest
