use Rattle.std.proofs.Common.{◌-◌, length}
use Rattle.ip6_headers.proofs.Walks.{StandsAt}
use Rattle.ip6_headers.proofs.chain.last_header.Given as goal

abbrev pub invariant-loop-next : goal.invariant-loop-next
invariant-loop-next l = StandsAt l.packet l.header

abbrev pub decreases-loop-next : goal.decreases-loop-next
decreases-loop-next l = length l.packet - l.header.place
