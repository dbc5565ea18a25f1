use Rattle.std.proofs.Common.{length}
use Rattle.fw_command.specs.Commands.{local_address}
use Rattle.ipfw_parser.specs.Views.{list_of}
use Rattle.fw_command.proofs.WordLists.{IsRead}
use Rattle.fw_command.proofs.ends.addresses.Given as goal

abbrev pub invariant-loop-word : goal.invariant-loop-word
invariant-loop-word l = IsRead local_address (list_of l.words) l.found.items (list_of l.rest)

abbrev pub decreases-loop-word : goal.decreases-loop-word
decreases-loop-word l = length (list_of l.rest)
