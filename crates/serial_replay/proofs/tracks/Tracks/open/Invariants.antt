use Rattle.std.proofs.Common.{◌≡◌, map}
use Rattle.std.specs.Option.{option_map}
use Rattle.capture_tracks.specs.Tracks.{held_record_of}
use Rattle.serial_replay.specs.Tracks.{BeginAll}
use Rattle.serial_schedule.specs.Order.{moment_of}
use Rattle.serial_replay.proofs.tracks.Tracks.open.Given as goal

abbrev pub invariant-loop-opened : goal.invariant-loop-opened
invariant-loop-opened g l = record {
  begun : BeginAll g.S.Source.left g.S.Source.faults l.limit l.yielded l.tracks.items;
  moments : l.moments.items ≡ map (option_map moment_of) (map held_record_of l.tracks.items);
}
