use Rattle.packet_headers.proofs.Spelled.{frames_are_read}
use Rattle.packet_headers.proofs.laws.spelled_frames_are_read.Goals as goal

pub returns : goal.returns
returns c = frames_are_read
