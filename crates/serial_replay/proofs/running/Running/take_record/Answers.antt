use Rattle.std.proofs.Common.{refl, sym, subst}
use Rattle.pcap_read.specs.Capture.{captured_of}
use Rattle.serial_replay.specs.ReplayWorld.{ReplaysARecord}
use Rattle.capture_tracks.specs.Reading.{input_of}
use Rattle.capture_tracks.specs.declared.track.Track.TheVariants.{Open}
use Rattle.serial_replay.specs.Running.{ports_of}
use Rattle.serial_replay.proofs.Records.{port-of}
use Rattle.serial_replay.proofs.TakenRecord.{takes-record, port-at, open-at, never-closed, never-empty}
use Rattle.serial_replay.proofs.running.Running.take_record.Goals as goal

pub replay_record-requires-clause-port : goal.replay_record-requires-clause-port
replay_record-requires-clause-port g c =
    let track = c.in-Some.track.now in
    let ready = c.requires.ready in
    let t = ready.tracked in
    let at = port-at g.S.Source.left g.S.Source.faults (Open track) t.limit t.captures c.args.self.now.tracks t.dones t.origins c.args.capture track (captured_of c.in-Some-current.taken)
    (open-at c.args.self.now.tracks c.args.capture track c.in-Some.ensures) refl (sym c.in-Some-current.ensures.value) t.are in
    λ lane there. port-of track.port (ports_of t.origins) c.args.self.now.replay.lanes.items c.args.capture lane at there ready.ports

pub returns-in_ok-replay_record : goal.returns-in_ok-replay_record
returns-in_ok-replay_record g c =
    takes-record g.S.Source.left g.S.Source.faults c.args.self.now _ c.args.capture c.in-Some.track.now (captured_of c.in-Some-current.taken) c.requires.ready c.requires.due c.requires.first
    (open-at c.args.self.now.tracks c.args.capture c.in-Some.track.now c.in-Some.ensures) (sym c.in-Some-current.ensures.value)
    (subst (λ link. ReplaysARecord c.args.capture c.in-Some.track.now.port (input_of link c.in-Some.track.now.port (captured_of c.in-Some-current.taken)) c.args.self.now.replay c.replay_record.new.self) c.link-link.ensures c.in_ok-replay_record.ensures) c.advance.ensures refl refl

pub returns-in_default-current : goal.returns-in_default-current
returns-in_default-current g c = absurd (never-empty c.args.self.now.tracks c.args.capture c.in-Some.track.now c.requires.first (open-at c.args.self.now.tracks c.args.capture c.in-Some.track.now c.in-Some.ensures) c.in_default-current.ensures.value)

pub returns-in_default : goal.returns-in_default
returns-in_default g c = absurd (never-closed c.args.self.now.tracks c.args.capture c.requires.first c.in_default.ensures)
