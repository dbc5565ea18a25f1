use Rattle.ip6_headers.proofs.Spelled6.{packets_are_read}
use Rattle.ip6_headers.proofs.laws.spelled_packets_are_read.Goals as goal

pub returns : goal.returns
returns c = packets_are_read
