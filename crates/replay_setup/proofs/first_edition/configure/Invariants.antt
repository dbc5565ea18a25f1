-- The lines behind go on from the configuration that those so far gave.
use Rattle.std.proofs.Common.{◌≡◌, drop}
use Rattle.rule_chain.specs.First.{first_configuration}
use Rattle.replay_setup.specs.FirstEdition.{configuration_behind}
use Rattle.replay_setup.proofs.first_edition.configure.Given as goal

abbrev pub invariant-loop-line : goal.invariant-loop-line
invariant-loop-line l = configuration_behind l.config (drop l.line-index l.lines) ≡ configuration_behind first_configuration l.lines
