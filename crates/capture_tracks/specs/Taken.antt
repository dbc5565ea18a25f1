-- The record of a capture that is met next.
use Rattle.std.specs.Prelude.{◌≡◌, ℕ, Option, None}
use Rattle.std.specs.Option.{option_map}
use Rattle.capture_tracks.specs.Reading.{input_of}
use Rattle.capture_tracks.specs.Tracks.{held_in}
use Rattle.capture_tracks.specs.declared.track.Track.{Track}
use Rattle.capture_tracks.specs.declared.track.Track.TheVariants.{Open, Refused}
use Rattle.fw_base.specs.declared.port.Port.{Port}
use Rattle.fw_world.specs.Inputs.{Input}
use Rattle.pcap_read.specs.Capture.{captured_of, link_of}
use Rattle.capture_tracks.specs.declared.taken.Taken.{Taken}

-- the record as an input of its lane
abbrev pub taken_input : Taken → Input
taken_input taken = input_of taken.link taken.port.now (captured_of taken.record)

-- the record that a track holds, as an input of its lane
abbrev pub held_input : {S : Type 0} → Track S → Option Input
held_input (Open track) = option_map (input_of (link_of track.capture) track.port) (held_in track)
held_input (Refused source end) = None

-- the track's capture was taken there
abbrev pub IsTakenAt : {S : Type 0} → Track S → Port → Type 0
IsTakenAt (Open track) port = track.port ≡ port
IsTakenAt (Refused source end) port = ⊥

-- the record of this number is the one that the track's capture gave last
abbrev pub IsLastGiven : {S : Type 0} → Track S → ℕ → Type 0
IsLastGiven (Open track) number = number ≡ track.records
IsLastGiven (Refused source end) number = ⊥
