use Rattle.ip6_headers.proofs.EnoughHeaders.{ends_at_last, ends_alike}
use Rattle.ip6_headers.proofs.laws.chains_end_among_their_headers.Goals as goal

pub returns : goal.returns
returns c = record { end = ends_at_last; alike = ends_alike }
