-- The sources so far.
use Rattle.std.proofs.Common.{◌≡◌, ◌∷◌}
use Rattle.capture_tracks.specs.Replay.{sources_of}
use Rattle.replay_setup.proofs.ready.all_sources.Given as goal

abbrev pub invariant-loop-capture : goal.invariant-loop-capture
invariant-loop-capture g l = l.sources.items ≡ l.fn.script ∷ sources_of l.yielded
