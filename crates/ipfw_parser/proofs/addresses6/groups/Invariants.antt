use Rattle.std.specs.Option.{option_copied}
use Rattle.ipfw_parser.specs.Addresses6.{colon_parts, colon_parts_left}
use Rattle.ipfw_parser.proofs.Steps.Lists.{left_len}
use Rattle.ipfw_parser.proofs.Steps.Sides.{IsGrouping}
use Rattle.ipfw_parser.proofs.addresses6.groups.Given as goal

abbrev pub invariant-loop-rest : goal.invariant-loop-rest
invariant-loop-rest l = IsGrouping (colon_parts l.fn.text) l.found.value l.found.count (colon_parts_left (option_copied l.rest))

abbrev pub decreases-loop-rest : goal.decreases-loop-rest
decreases-loop-rest l = left_len l.rest
