use Rattle.packet_headers.proofs.Spelled.{options_are_told}
use Rattle.packet_headers.proofs.laws.spelled_options_are_told.Goals as goal

pub returns : goal.returns
returns c = options_are_told
