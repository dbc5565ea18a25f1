use Rattle.std.proofs.Common.{◌≡◌, map}
use Rattle.capture_tracks.specs.Tracks.{end_of, source_at}
use Rattle.serial_replay.proofs.tracks.Tracks.close.Given as goal

abbrev pub invariant-loop-track : goal.invariant-loop-track
invariant-loop-track g l = record {
  sources : l.sources.items ≡ map source_at l.yielded;
  ends : l.ends.items ≡ map end_of l.yielded;
}
