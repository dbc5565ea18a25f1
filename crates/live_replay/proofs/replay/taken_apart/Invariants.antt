-- Lanes, sources and ends of those so far.
use Rattle.std.proofs.Common.{◌≡◌}
use Rattle.live_replay.specs.Crew.{lanes_of, sources_of, ends_of}
use Rattle.live_replay.proofs.replay.taken_apart.Given as goal

abbrev pub invariant-loop-done : goal.invariant-loop-done
invariant-loop-done g l = record {
  lanes : l.lanes.items ≡ lanes_of l.yielded;
  sources : l.sources.items ≡ sources_of l.yielded;
  ends : l.ends.items ≡ ends_of l.yielded;
}
