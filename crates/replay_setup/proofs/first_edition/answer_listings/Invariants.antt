-- The lines behind add their answers to those so far.
use Rattle.std.proofs.Common.{◌≡◌, drop}
use Rattle.replay_setup.specs.FirstEdition.{listings_of}
use Rattle.replay_setup.proofs.ScriptLines.{behind}
use Rattle.replay_setup.proofs.first_edition.answer_listings.Given as goal

abbrev pub invariant-loop-line : goal.invariant-loop-line
invariant-loop-line l = behind l.config l.answers.items (drop l.line-index l.lines) ≡ listings_of l.config l.lines
