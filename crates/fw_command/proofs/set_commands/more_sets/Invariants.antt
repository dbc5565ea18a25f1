use Rattle.std.proofs.Common.{◌≡◌, length}
use Rattle.ipfw_parser.specs.Views.{list_of}
use Rattle.fw_command.specs.SetCommands.{more_sets}
use Rattle.fw_command.proofs.set_commands.more_sets.Given as goal

abbrev pub invariant-loop-word : goal.invariant-loop-word
invariant-loop-word l = more_sets l.to_enable l.mask (list_of l.rest) ≡ more_sets l.to_enable l.before (list_of l.words)

abbrev pub decreases-loop-word : goal.decreases-loop-word
decreases-loop-word l = length (list_of l.rest)
